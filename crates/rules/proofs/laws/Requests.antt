-- The requests that run in a reachable state: their bytes are bytes of image and store, and no two share one.
use Prim.Native.Nat.{ℕ, zero, suc, ◌-◌, ◌≤◌, ◌<◌}
use Rattle.std.specs.Prelude.{Bool, true, false, ◌≡◌, refl, length}
use Rattle.std.proofs.Common.{sym, ap, subst, ◌∙◌, arith}
use Rattle.std.proofs.Math.Numerals.{add-one}
use Rattle.arith.specs.Bounded.{sum, sum_mono}
use Rattle.arith.specs.FirstNo.{none_elim}
use Rattle.arith.specs.Plain.{plain, and_plain}
use Rattle.memory.specs.declared.DeviceAnswer.{DeviceAnswer}
use Rattle.memory.specs.declared.DeviceAnswer.TheVariants as Answers
use Rattle.memory.specs.declared.JobType.TheVariants.{NoJob}
use Rattle.memory.specs.declared.Task.{Task}
use Rattle.plan.specs.Questions.{device_of, area_of, sub_area_of, device_end, window_end, length_sum}
use Rattle.plan.specs.WellFormed.{WellFormed}
use Rattle.plan.specs.declared.records.Plan.{Plan}
use Rattle.segment.specs.laws.CutLaws.{Cut}
use Rattle.segment.specs.laws.SegmentLaws.{Admitted, Good, segment_good, segment_device}
use Rattle.segment.specs.Segments.{segment_at}
use Rattle.state.specs.declared.DeviceState.{DeviceState}
use Rattle.state.specs.declared.DeviceState.TheVariants.{Free, Runs, LockedFor}
use Rattle.state.specs.declared.Job.{Job}
use Rattle.rules.specs.Admission.{uses_window, fits_window, image_fits, store_reaches, round_number, admits}
use Rattle.rules.specs.Layout.{Layout, layout_of}
use Rattle.rules.specs.Machine.{Core, is_pending, due}
use Rattle.rules.specs.Memory.{Memory}
use Rattle.rules.proofs.laws.PlanLaws.{admitted}
use Rattle.rules.specs.statements.Reach.{request_of}
use Rattle.rules.proofs.laws.Reachable.{Running, StateFits, Reachable}
use Rattle.rules.proofs.laws.RequestBytes.{Request, answered, Fits, Apart}
use Rattle.rules.specs.Round.{window_place, clears_only, memory_on}

-- Each pending job is at a place where it is cut: this too holds of every state that calls lead to.
abbrev pub AtCuts : Plan → Core → Type 0
AtCuts p c = (a : ℕ) → is_pending (c.jobs a) ≡ true → Cut (segment_at p a (c.jobs a).task) (c.jobs a).task (c.jobs a).processed

-- the request of area a with job j, on device d
abbrev pub request_for : Plan → ℕ → ℕ → Job → Request
request_for p d a j =
    let s = due (layout_of p) a j in
    record { clears = clears_only p d; kind = j.task.kind; start = s.start.0; place = window_place p a j; length = s.length }

-- no request, as one of 0 bytes
abbrev pub empty_request : Request
empty_request = record { clears = false; kind = NoJob; start = 0; place = 0; length = 0 }

-- the request of device d in a state
abbrev pub request_on : Plan → ℕ → DeviceState → (ℕ → Job) → Request
request_on p d Free jobs = empty_request
request_on p d (LockedFor a) jobs = empty_request
request_on p d (Runs a polls) jobs = request_for p d a (jobs a)

-- the request of device d
abbrev pub request_at : Plan → Core → ℕ → Request
request_at p c d = request_on p d (c.devices d).state c.jobs

-- a device's request is none, or that of the area that it runs
pub by_request : (p : Plan) (c : Core) (P : Request → Type 0) (d : ℕ) → P empty_request →
    ((a q : ℕ) → (c.devices d).state ≡ Runs a q → P (request_for p d a (c.jobs a))) → P (request_at p c d)
by_request p c P d f g = go (c.devices d).state refl
  where
    go : (s : DeviceState) → (c.devices d).state ≡ s → P (request_on p d s c.jobs)
    go Free e = f
    go (LockedFor a) e = f
    go (Runs a q) e = g a q e

-- no request does nothing
empty_answered : (x : DeviceAnswer) (m : Memory) → m ≡ answered x empty_request m
empty_answered Answers.Pending m = refl
empty_answered Answers.Done m = refl
empty_answered (Answers.Failed b) m = refl

-- what a round does on a device is what its request does
pub memory_on_lem : (p : Plan) (d : ℕ) (s : DeviceState) (x : DeviceAnswer) (jobs : ℕ → Job) (m : Memory) →
    memory_on p d s x jobs m ≡ answered x (request_on p d s jobs) m
memory_on_lem p d Free x jobs m = empty_answered x m
memory_on_lem p d (LockedFor a) x jobs m = empty_answered x m
memory_on_lem p d (Runs a polls) x jobs m = refl

-- questions 18 and 19 as facts
pub round_accepted : (p : Plan) (m : Memory) → round_number p m.image m.store ≡ 0 →
    (length m.image ≡ length_sum p.devices p.device_count)
    × ((a : ℕ) → a < p.area_count → window_end (area_of p.areas a) ≤ length m.store)
unfolding round_number image_fits store_reaches
round_accepted p m e =
    let answer = none_elim 18 _ (omega arith) e in
    (simp plain at (answer 0 (omega arith)), simp plain at (answer 1 (omega arith)))

-- question 14 as a fact
fits_window_lem : (p : Plan) (a : ℕ) (t : Task) → admits p a t ≡ true → uses_window t.kind ≡ true → t.length ≤ (area_of p.areas a).window.length
unfolding admits fits_window
fits_window_lem p a t e u =
    let facts = simp and_plain at e in
    simp plain at (rw u at facts.1.1.0)

module _ (p : Plan) (w : WellFormed p) where
  -- a device ends where the lengths up to it add up to
  device_sum : (d : ℕ) → d < p.device_count → device_end (device_of p.devices d) ≡ length_sum p.devices (suc d)
  unfolding sum
  device_sum zero h = omega (arith, w.first_start)
  device_sum (suc d) h =
      let e = rw add-one at (w.next_start d (omega arith)) in
      omega (arith, device_sum d (omega arith))

  -- so within the image
  pub device_end_lem : (d : ℕ) → d < p.device_count → device_end (device_of p.devices d) ≤ length_sum p.devices p.device_count
  device_end_lem d h = omega (arith, device_sum d h, sum_mono (λ i. (device_of p.devices i).length) (suc d) p.device_count h)

-- area a's request is a good segment of its job, and lies in its window if the job uses it
pub record Placed (p : Plan) (c : Core) (a : ℕ) : Type 0 where
  pub known : a < p.area_count
  pub job : Admitted p a (c.jobs a).task
  pub cut : Cut (segment_at p a (c.jobs a).task) (c.jobs a).task (c.jobs a).processed
  pub more : (c.jobs a).processed < (c.jobs a).task.length
  pub good : Good p a (c.jobs a).task (request_of p c a) ((c.jobs a).task.length - (c.jobs a).processed)
  pub window : uses_window (c.jobs a).task.kind ≡ true → (c.jobs a).task.length ≤ (area_of p.areas a).window.length

module _ {l : Layout} {ok : ℕ → Task → Bool} {c : Core} (reach : Reachable l ok c) where
  -- what holds of an area that a device runs
  pub running_on : {d a q : ℕ} → (c.devices d).state ≡ Runs a q → Running l d a q (c.jobs a)
  running_on {d} e = subst (StateFits l c.jobs d) e (reach.devices d).state

  -- no two devices run one area
  pub one_device : {d e a q r : ℕ} → (c.devices d).state ≡ Runs a q → (c.devices e).state ≡ Runs a r → d ≡ e
  one_device u v = sym (running_on u).needed ∙ (running_on v).needed

-- a device where a request runs is known
pub running_known : (p : Plan) → WellFormed p → (c : Core) → Reachable (layout_of p) (admits p) c → (d a polls : ℕ) → (c.devices d).state ≡ Runs a polls → d < p.device_count
unfolding layout_of
running_known p w c r d a polls e =
    let run = rw e at (r.devices d).state in
    let fits = r.jobs a run.pending in
    subst (λ n. n < p.device_count) run.needed
    (segment_device p w a (c.jobs a).task (admitted p a (c.jobs a).task fits.known fits.admitted) (c.jobs a).processed fits.more)

module _ (p : Plan) (w : WellFormed p) (c : Core) (reach : Reachable (layout_of p) (admits p) c) (cuts : AtCuts p c) where
  -- a request that runs is placed
  pub placed : {d a q : ℕ} → (c.devices d).state ≡ Runs a q → Placed p c a
  unfolding layout_of
  placed {d} {a} {q} e =
      let pending = (running_on reach e).pending in
      let job = reach.jobs a pending in
      let ok = admitted p a (c.jobs a).task job.known job.admitted in
      record {
        known = job.known;
        job = ok;
        cut = cuts a pending;
        more = job.more;
        good = segment_good p w a (c.jobs a).task ok (cuts a pending) job.more;
        window = fits_window_lem p a (c.jobs a).task job.admitted;
      }

  -- in an accepted round the bytes of a device's request are bytes of image and store
  pub request_fits_lem : (m : Memory) → round_number p m.image m.store ≡ 0 → (d : ℕ) → Fits m (request_at p c d)
  request_fits_lem m accepted d =
      let long = round_accepted p m accepted in
      by_request p c (Fits m) d (omega arith) λ a q e.
      let h = placed e in
      let g = h.good in
      let known = w.device_known g.sub_area g.known in
      record {
        image = omega (arith, g.before_device_end, ap (λ i. device_end (device_of p.devices i)) g.device_is, device_end_lem p w _ known, long.0);
        store = λ u. omega (arith, g.length_most, h.more, h.window u, long.1 a h.known);
      }

  -- requests of two areas share no byte
  areas_apart : (d e : ℕ) {a b : ℕ} → Placed p c a → Placed p c b → (a ≡ b → ⊥) → Apart (request_for p d a (c.jobs a)) (request_for p e b (c.jobs b))
  areas_apart d e {a} {b} h k f =
      let g = h.good in
      let i = k.good in
      record {
        image = λ x u v.
            w.bytes_apart g.sub_area i.sub_area g.known i.known
            (λ e. f (sym g.of_area ∙ ap (λ n. (sub_area_of p.sub_areas n).area) e ∙ i.of_area)) x
            (omega (arith, g.after_start, g.before_end)) (omega (arith, i.after_start, i.before_end));
        store = λ s t x u v.
            w.window_apart a b h.known k.known f x
            (omega (arith, g.length_most, h.more, h.window s)) (omega (arith, i.length_most, k.more, k.window t));
      }

  -- nor do those of two devices
  pub requests_apart : (d e : ℕ) → (d ≡ e → ⊥) → Apart (request_at p c d) (request_at p c e)
  requests_apart d e f =
      by_request p c (λ r. Apart r (request_at p c e)) d (omega arith) λ a q u.
      by_request p c (λ r. Apart (request_for p d a (c.jobs a)) r) e (omega arith) λ b r v.
      areas_apart d e (placed u) (placed v) (λ g. f (one_device reach u (v ∙ ap (λ i. Runs i r) (sym g))))
