-- What an answer does to the job and the device of the request that takes it.
use Rattle.std.specs.Prelude.{ℕ, ◌+◌, ◌≤◌, ◌<◌, Bool, true, false, List, ◌≡◌, refl, ltb, leb, eqb, length}
use Rattle.std.proofs.lemmas.Bool.{false≢true}
use Rattle.std.proofs.Common.{sym, ◌∙◌, arith, leb-true, lt-ltb, le-ltb}
use Rattle.std.proofs.Math.Path.{ap, fun_ext}
use Rattle.arith.specs.Bounded.{every_elim}
use Rattle.arith.specs.Cases.{pick, by_bool, by_leb}
use Rattle.arith.specs.Parts.{upd, upd_case}
use Rattle.arith.specs.Plain.{plain}
use Rattle.machine.specs.Sound.{job_runs, segment_fits, request_sound}
use Rattle.memory.specs.declared.DeviceAnswer.{DeviceAnswer}
use Rattle.memory.specs.declared.DeviceAnswer.TheVariants as Answers
use Rattle.memory.specs.declared.JobType.{JobType}
use Rattle.memory.specs.declared.JobType.TheVariants.{NoJob, Write, Read, Compare, Erase, BlankCheck, Lock}
use Rattle.plan.specs.Questions.{area_of, device_of}
use Rattle.plan.specs.declared.records.Plan.{Plan}
use Rattle.plan.specs.declared.records.SubAreaRecord.{SubAreaRecord}
use Rattle.rules.specs.Admission.{uses_window, if_asked, image_fits, store_reaches}
use Rattle.rules.specs.Layout.{Layout, layout_of}
use Rattle.rules.specs.Machine.{Core, Verdict, goes_on, finished, differs, failed, due, doing, set_both, job_failed, job_finished, job_differs, after_finished, is_cancelling, is_pending, take_running}
use Rattle.rules.specs.Memory.{Memory, agrees, verdict_of, answered_memory}
use Rattle.rules.specs.Round.{window_place, clears_only}
use Rattle.segment.specs.laws.Found.{segment_from, segment_from_lem}
use Rattle.segment.specs.Segments.{no_segment, segment_at}
use Rattle.segment.specs.declared.Segment.{Segment}
use Rattle.state.specs.declared.DeviceState.{DeviceState}
use Rattle.state.specs.declared.DeviceState.TheVariants.{Free, Runs}
use Rattle.state.specs.declared.Job.{Job}
use Rattle.effects.specs.Effects.{lent_end}

-- The job and the device after a verdict. Test: is the request dropped where it goes on, since "polls reach the patience"?
abbrev pub taken_job : Layout → ℕ → Verdict → Bool → Job → Job
taken_job p a goes_on true j = job_failed j
taken_job p a goes_on false j = j
taken_job p a finished t j = job_finished p a j
taken_job p a differs t j = job_differs j
taken_job p a failed t j = job_failed j

abbrev pub taken_state : ℕ → ℕ → Verdict → Bool → DeviceState
taken_state a polls goes_on true = Free
taken_state a polls goes_on false = Runs a (polls + 1)
taken_state a polls finished t = Free
taken_state a polls differs t = Free
taken_state a polls failed t = Free

-- The same with the segments that the code found: length n of the due segment, r retries of the next.
abbrev pub finished_with : ℕ → ℕ → Job → Job
finished_with n r j = after_finished (is_cancelling j.status) (leb j.task.length (j.processed + n)) (j.processed + n) r j

abbrev pub taken_with : ℕ → ℕ → Verdict → Bool → Job → Job
taken_with n r goes_on true j = job_failed j
taken_with n r goes_on false j = j
taken_with n r finished t j = finished_with n r j
taken_with n r differs t j = job_differs j
taken_with n r failed t j = job_failed j

abbrev pub due_with : Segment → Segment → Verdict → Segment
due_with s next goes_on = s
due_with s next finished = next
due_with s next differs = s
due_with s next failed = s

-- the segment behind s, which is due, where the answer may make it due
abbrev pub next_of : DeviceAnswer → List SubAreaRecord → ℕ → ℕ → ℕ → Job → Segment → Segment
next_of Answers.Pending l n start a j s = no_segment
next_of Answers.Done l n start a j s =
    pick (leb j.task.length (j.processed + s.length)) no_segment (segment_from l n start a j.task (j.processed + s.length))
next_of (Answers.Failed k) l n start a j s = no_segment

-- area a's request, which device d runs, takes answer x
abbrev pub request_verdict : Plan → ℕ → Job → DeviceAnswer → Memory → Verdict
request_verdict p a j x m =
    let s = due (layout_of p) a j in
    verdict_of x j.task.kind s.start.0 (window_place p a j) s.length m

abbrev pub is_dropped : Plan → ℕ → ℕ → Bool
is_dropped p d polls = leb (device_of p.devices d).poll_limit (polls + 1)

abbrev pub request_job : Plan → ℕ → ℕ → ℕ → Job → DeviceAnswer → Memory → Job
request_job p d a polls j x m = taken_job (layout_of p) a (request_verdict p a j x m) (is_dropped p d polls) j

abbrev pub request_state : Plan → ℕ → ℕ → ℕ → Job → DeviceAnswer → Memory → DeviceState
request_state p d a polls j x m = taken_state a polls (request_verdict p a j x m) (is_dropped p d polls)

abbrev pub request_memory : Plan → ℕ → ℕ → Job → DeviceAnswer → Memory → Memory
request_memory p d a j x m =
    let s = due (layout_of p) a j in
    answered_memory (clears_only p d) x j.task.kind s.start.0 (window_place p a j) s.length m

-- the rules say the same
pub same_map : {A : Type 0} (f : ℕ → A) (a : ℕ) → f ≡ upd f a (f a)
same_map f a = fun_ext (λ b. upd_case (λ v. f b ≡ v) f a b (f a) (λ e. ap f (sym e)) (λ _. refl))

pub taken_core : (p : Layout) (d a polls : ℕ) (v : Verdict) (c : Core) →
    take_running p d a polls v (ltb (polls + 1) (p.limit d)) c
    ≡ set_both a (taken_job p a v (leb (p.limit d) (polls + 1)) (c.jobs a)) d (taken_state a polls v (leb (p.limit d) (polls + 1))) c
taken_core p d a polls finished c = refl
taken_core p d a polls differs c = refl
taken_core p d a polls failed c = refl
taken_core p d a polls goes_on c =
    by_leb (p.limit d) (polls + 1)
    (λ e h. rw (e, le-ltb _ _ h))
    (λ e h. rw (e, lt-ltb _ _ h) (ap (λ f. record { jobs = f; devices = upd c.devices d (doing (Runs a (polls + 1)) (c.devices d)) }) (same_map c.jobs a)))

-- what a driver gets of the store is there
lent_asked : (k : JobType) (w n s : ℕ) (q : Bool) → if_asked (uses_window k) q ≡ true → (q ≡ true → w + n ≤ s) → lent_end k w n ≤ s
lent_asked Write w n s q e f = f e
lent_asked Read w n s q e f = f e
lent_asked Compare w n s q e f = f e
lent_asked Erase w n s q e f = omega arith
lent_asked BlankCheck w n s q e f = omega arith
lent_asked Lock w n s q e f = omega arith
lent_asked NoJob w n s q e f = omega arith

-- what the soundness test and the lent lengths say of a request that runs
pub record Fits (p : Plan) (d a polls : ℕ) (j : Job) (image store : List ℕ) : Type 0 where
  pub known : a < p.area_count
  pub pending : is_pending j ≡ true
  pub few : polls < (device_of p.devices d).poll_limit
  pub device : (due (layout_of p) a j).device ≡ d
  pub image_fits_lem : (due (layout_of p) a j).start.0 + (due (layout_of p) a j).length ≤ length image
  pub job_fits : j.processed + (due (layout_of p) a j).length ≤ j.task.length
  pub store_fits : lent_end j.task.kind (window_place p a j) (due (layout_of p) a j).length ≤ length store

pub request_fits_lem : (p : Plan) (d a polls : ℕ) (j : Job) (image store : List ℕ) → request_sound p d a polls j ≡ true → image_fits p image ≡ true →
    store_reaches p store ≡ true → Fits p d a polls j image store
unfolding request_sound job_runs segment_fits layout_of image_fits store_reaches
request_fits_lem p d a polls j image store e f g =
    let h = simp plain at e in
    let image-is = simp plain at f in
    let window_end_lem : (area_of p.areas a).window.start + (area_of p.areas a).window.length ≤ length store = leb-true _ _ (every_elim _ _ g a h.0) in
    record {
      known = h.0;
      pending = h.1.0.0;
      few = h.1.0.1.1;
      device = h.1.1.0;
      image_fits_lem = omega (arith, h.1.1.1.0, image-is);
      job_fits = h.1.1.1.1.0;
      store_fits = lent_asked j.task.kind _ _ _ _ h.1.1.1.1.1 (λ q. let e : j.processed + (due (layout_of p) a j).length ≤ (area_of p.areas a).window.length = leb-true _ _ q in omega (arith, window_end_lem));
    }

-- a request that has taken its answer, with the segments that the code found
module _ (p : Plan) (d a polls : ℕ) (j : Job) (x : DeviceAnswer) (m : Memory) (s : Segment) (is : s ≡ segment_at p a j.task j.processed) where
  abbrev next : Segment
  next = next_of x p.sub_areas p.sub_area_count (area_of p.areas a).start.0 a j s

  abbrev found : Verdict
  found = verdict_of x j.task.kind s.start.0 (window_place p a j) s.length m

  abbrev upto : ℕ
  upto = j.processed + s.length

  found_is : found ≡ request_verdict p a j x m
  unfolding layout_of
  found_is = ap (λ t. verdict_of x j.task.kind t.start.0 (window_place p a j) t.length m) is

  -- behind the last segment the retries of a next one do not count
  finished_is : (e : Segment) → e ≡ pick (leb j.task.length upto) no_segment (segment_at p a j.task upto) →
      finished_with s.length e.retries j ≡ job_finished (layout_of p) a j
  unfolding job_finished layout_of
  finished_is e f =
      by_bool (leb j.task.length upto)
      (λ t. rw (f, ← is, t) (by_bool (is_cancelling j.status) (λ u. rw u) (λ u. rw u)))
      (λ t. rw (f, ← is, t))

  -- what becomes of the job where its request is finished
  finished_due : (e : Segment) → e ≡ pick (leb j.task.length upto) no_segment (segment_at p a j.task upto) →
      is_pending (finished_with s.length e.retries j) ≡ true →
      e ≡ segment_at p a (finished_with s.length e.retries j).task (finished_with s.length e.retries j).processed
  finished_due e f =
      by_bool (is_cancelling j.status)
      (λ u. rw u (λ g. absurd (false≢true g)))
      (λ u. by_bool (leb j.task.length upto) (λ t. rw (u, t) (λ g. absurd (false≢true g))) (λ t. rw (u, t) (λ _. f ∙ rw t)))

  failed_due : s ≡ segment_at p a (job_failed j).task (job_failed j).processed
  unfolding job_failed
  failed_due = by_bool (is_cancelling j.status) (λ u. rw u is) (λ u. by_bool (eqb j.retries_left 0) (λ t. rw (u, t) is) (λ t. rw (u, t) is))

  differs_idle : is_pending (job_differs j) ≡ true → s ≡ segment_at p a (job_differs j).task (job_differs j).processed
  unfolding job_differs
  differs_idle = by_bool (is_cancelling j.status) (λ u. rw u (λ _. is)) (λ u. rw u (λ _. is))

  -- the job is the one that the rules give, and the segment kept for it is due
  abbrev Is : Verdict → Segment → Bool → Type 0
  Is v e t =
      (taken_with s.length e.retries v t j ≡ taken_job (layout_of p) a v t j)
      × (is_pending (taken_with s.length e.retries v t j) ≡ true →
      due_with s e v ≡ segment_at p a (taken_with s.length e.retries v t j).task (taken_with s.length e.retries v t j).processed)

  goes_on_lem : (t : Bool) → Is goes_on no_segment t
  goes_on_lem true = (refl, λ _. failed_due)
  goes_on_lem false = (refl, λ _. is)

  finished_next : (e : Segment) → e ≡ pick (leb j.task.length upto) no_segment (segment_at p a j.task upto) → (t : Bool) → Is finished e t
  finished_next e f t = (finished_is e f, finished_due e f)

  taken : (y : DeviceAnswer) (t : Bool) →
      Is (verdict_of y j.task.kind s.start.0 (window_place p a j) s.length m)
      (next_of y p.sub_areas p.sub_area_count (area_of p.areas a).start.0 a j s) t
  taken Answers.Pending t = goes_on_lem t
  taken (Answers.Failed k) t = (refl, λ _. failed_due)
  taken Answers.Done t =
      by_bool (agrees j.task.kind s.start.0 (window_place p a j) s.length m)
      (λ e. rw e (finished_next _ (ap (pick (leb j.task.length upto) no_segment) (segment_from_lem p a j.task upto)) t))
      (λ e. rw e (refl, differs_idle))

  pub job_taken_lem : (r : Job) → r ≡ taken_with s.length next.retries found (is_dropped p d polls) j → r ≡ request_job p d a polls j x m
  job_taken_lem r e = e ∙ (taken x (is_dropped p d polls)).0 ∙ ap (λ u. taken_job (layout_of p) a u (is_dropped p d polls) j) found_is

  pub due_taken : (r : Job) (e : Segment) → r ≡ taken_with s.length next.retries found (is_dropped p d polls) j → e ≡ due_with s next found →
      is_pending r ≡ true → e ≡ segment_at p a r.task r.processed
  due_taken r e f g = rw (f, g) (taken x (is_dropped p d polls)).1

  pub state_taken : (r : DeviceState) → r ≡ taken_state a polls found (is_dropped p d polls) → r ≡ request_state p d a polls j x m
  state_taken r e = e ∙ ap (λ u. taken_state a polls u (is_dropped p d polls)) found_is

  pub memory_taken : answered_memory (clears_only p d) x j.task.kind s.start.0 (window_place p a j) s.length m ≡ request_memory p d a j x m
  unfolding layout_of
  memory_taken = ap (λ t. answered_memory (clears_only p d) x j.task.kind t.start.0 (window_place p a j) t.length m) is

  -- the request with the segment found fits the lent memory
  pub found_fits : {image store : List ℕ} → Fits p d a polls j image store →
      (s.start.0 + s.length ≤ length image) × (lent_end j.task.kind (window_place p a j) s.length ≤ length store)
      × (j.processed + s.length ≤ j.task.length)
  unfolding layout_of
  found_fits f = rw is (f.image_fits_lem, f.store_fits, f.job_fits)
