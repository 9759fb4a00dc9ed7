-- A job waits for no lock where no accepted lock request is of a device that its area is on.
use Prim.Native.Nat.{ℕ, zero, suc, ◌<◌}
use Rattle.std.specs.Prelude.{Bool, ◌&&◌, ◌||◌, ◌≡◌, refl, Option, None, Some}
use Rattle.std.proofs.Math.Bool.{true, false}
use Rattle.std.proofs.lemmas.Bool.{false≢true}
use Rattle.std.proofs.Common.{true≢false, sym, subst, ◌∙◌, eq-eqb}
use mathlib.Core.List.{List, [], ◌∷◌, ◌++◌}
use Rattle.std.proofs.Math.Path.{ap}
use Rattle.arith.specs.Bounded.{some_intro}
use Rattle.arith.specs.Cases.{and_intro, by_eqb}
use Rattle.arith.specs.Parts.{upd, upd_case}
use Rattle.memory.specs.declared.DeviceAnswer.{DeviceAnswer}
use Rattle.memory.specs.declared.Task.{Task}
use Rattle.plan.specs.Questions.{sub_area_of}
use Rattle.plan.specs.declared.records.Plan.{Plan}
use Rattle.segment.specs.Segments.{is_lock, is_erase}
use Rattle.segment.specs.laws.SegmentLaws.{job_place, segment_is}
use Rattle.state.specs.declared.Device.{Device}
use Rattle.state.specs.declared.DeviceState.{DeviceState}
use Rattle.state.specs.declared.DeviceState.TheVariants.{Free, Runs, LockedFor}
use Rattle.state.specs.declared.Job.{Job}
use Rattle.state.specs.declared.SuspendedErase.{SuspendedErase}
use Rattle.rules.specs.Admission.{admits, job_number, release_number, cancel_number, round_number}
use Rattle.rules.specs.History.{Call, submit, releases, cancels, asks, round, Tally, no_tally, count, close, History, lent, fresh_history, round_of, submitted, step, run}
use Rattle.rules.specs.Layout.{Layout, layout_of, layout_at}
use Rattle.rules.specs.Machine.{Core, is_pending, need, ready, Verdict, goes_on, finished, differs, failed, take_running, take_on, take_answer, first_half, Choice, nobody, area, best, start_job, start_choice, displaces, erase_or, erase_or_choice, start_over, start_on, start_device, second_half, wait_on, wait_of, holds, cancel_if, cancel, begin, release}
use Rattle.rules.specs.Memory.{Memory}
use Rattle.rules.specs.Round.{round_halves}
use Rattle.rules.proofs.laws.AboveJobs.{accepted_admissible}
use Rattle.rules.proofs.laws.Admitted.{cancel_admitted}
use Rattle.rules.proofs.laws.Best.{ready_plain, Ready, best_ready}
use Rattle.rules.proofs.laws.FirstHalf.{first_half_lem}
use Rattle.rules.proofs.laws.JobLaws.{taken_task}
use Rattle.rules.proofs.laws.Laws.{Laws}
use Rattle.rules.proofs.laws.PlanLaws.{admitted}
use Rattle.rules.proofs.laws.Potential.{by_behind}
use Rattle.rules.proofs.laws.RankLaws.{AgesApart}
use Rattle.rules.proofs.laws.Reachable.{Running, StateFits, Reachable, passed}
use Rattle.rules.proofs.laws.RoundCore.{verdict_at, round_core}
use Rattle.rules.proofs.laws.Runs.{HistoryFits, at, round_started, step_fits, start_fits}
use Rattle.rules.proofs.laws.StepLaws.{job_taken, Unlocked, accept_case}
use Rattle.rules.specs.statements.JobSets.{AreaJob, accepted_by, accepted_jobs, TakenFrom, is_on, job_locks, any_locks}

-- the segments of an admitted job are on devices that its area is on
on_device : (p : Plan) (a : ℕ) (t : Task) (x : ℕ) → a < (layout_of p).areas → admits p a t ≡ true → x < t.length →
    is_on p a ((layout_of p).segment a t x).device ≡ true
unfolding is_on layout_of
on_device p a t x k e h =
    let (i, y, g) = job_place (admitted p a t k e) x h in
    let s = sub_area_of p.sub_areas i in
    rw (segment_is p a t x g)
    (some_intro _ p.sub_area_count i g.known (and_intro (eq-eqb s.area a g.of_area) (eq-eqb s.device s.device refl)))

-- Some of the devices: d is one of them where `on d` holds.
module _ (p : Layout) (on : ℕ → Bool) where
  -- no device of these is locked
  abbrev NoneLocked : Core → Type 0
  NoneLocked c = (d : ℕ) → on d ≡ true → Unlocked (c.devices d).state

  -- job j of area a is no pending lock request of one
  abbrev NoRequest : ℕ → Job → Type 0
  NoRequest a j = is_pending j ≡ true → is_lock j.task.kind ≡ true → on (need p a j) ≡ false

  -- both, of every area
  abbrev Calm : Core → Type 0
  Calm c = NoneLocked c × ((a : ℕ) → NoRequest a (c.jobs a))

  -- a device comes to a state that is no lock
  moves : (c : Core) (d : ℕ) (y : Device) → Unlocked y.state → NoneLocked c → NoneLocked (record { jobs = c.jobs; devices = upd c.devices d y })
  moves c d y u k e o = upd_case (λ (x : Device). Unlocked x.state) c.devices d e y (λ _. u) (λ _. k e o)

  -- a job becomes one that is no such request
  changes : (jobs : ℕ → Job) (a : ℕ) (j : Job) → NoRequest a j → ((b : ℕ) → NoRequest b (jobs b)) → (b : ℕ) → NoRequest b (upd jobs a j b)
  changes jobs a j n k b = upd_case (NoRequest b) jobs a b j (λ e. subst (λ i. NoRequest i j) e n) (λ _. k b)

  -- a device takes its answer
  module _ (admits : ℕ → Task → Bool) where
    take_calm : (d : ℕ) (v : Verdict) (c : Core) → Reachable p admits c → Calm c → Calm (take_answer p d v c)
    unfolding take_answer
    take_calm d v c r k = go (c.devices d).state (r.devices d).state
      where
        -- what runs is no lock request
        after : (a q : ℕ) → Running p d a q (c.jobs a) → (v : Verdict) (t : Bool) → NoRequest a (job_taken p a v t (c.jobs a))
        after a q f v t i l = absurd (true≢false (sym l ∙ ap (λ (t : Task). is_lock t.kind) (taken_task p a v t (c.jobs a)) ∙ f.no_lock))

        taken : (a q : ℕ) → Running p d a q (c.jobs a) → (v : Verdict) (t : Bool) → Calm (take_running p d a q v t c)
        taken a q f goes_on true = (moves c d _ tt k.0, k.1)
        taken a q f goes_on false = (moves c d _ tt k.0, changes c.jobs a _ (after a q f goes_on false) k.1)
        taken a q f finished t = (moves c d _ tt k.0, changes c.jobs a _ (after a q f finished t) k.1)
        taken a q f differs t = (moves c d _ tt k.0, changes c.jobs a _ (after a q f differs t) k.1)
        taken a q f failed t = (moves c d _ tt k.0, changes c.jobs a _ (after a q f failed t) k.1)

        go : (x : DeviceState) → StateFits p c.jobs d x → Calm (take_on p d v x c)
        go Free f = k
        go (LockedFor a) f = k
        go (Runs a q) f = taken a q f v _

    -- all devices take their answers
    first_calm : Laws p admits → (v : ℕ → Verdict) (c : Core) → Reachable p admits c → Calm c → (n : ℕ) → Calm (first_half p v n c)
    unfolding first_half
    first_calm L v c r k zero = k
    first_calm L v c r k (suc n) = take_calm n (v n) (first_half p v n c) (passed r (first_half_lem p admits L v c r n).passes) (first_calm L v c r k n)

  -- a device picks
  start_calm : (d : ℕ) (c : Core) → Calm c → Calm (start_device p d c)
  unfolding start_device
  start_calm d c k = go (c.devices d).state (c.devices d).suspended
    where
      runs : (y : Device) → Unlocked y.state → Calm (record { jobs = c.jobs; devices = upd c.devices d y })
      runs y u = (moves c d y u k.0, k.1)

      given : (a : ℕ) → ready p c d a ≡ true → (t : Bool) → is_lock (c.jobs a).task.kind ≡ t → Calm (start_job d a t c)
      given a r true l = (
        λ e o. upd_case (λ (x : Device). Unlocked x.state) c.devices d e _
            (λ z. let m = (ready_plain p c d a).0 r in absurd (true≢false (sym o ∙ ap on (sym z ∙ sym m.1) ∙ k.1 a m.0 l)))
            (λ _. k.0 e o),
        changes c.jobs a _ (λ i. absurd (false≢true i)) k.1,
      )
      given a r false l = runs _ tt

      picked : (x : Choice) → Ready p c d x → Calm (start_choice d x c)
      picked nobody r = k
      picked (area a) r = given a r _ refl

      erase : (b q : ℕ) (x : Choice) → Calm (erase_or_choice d b q x c)
      erase b q nobody = runs _ tt
      erase b q (area a) = test (displaces (c.jobs a).task.kind)
        where
          test : (t : Bool) → Calm (erase_or d b q a t c)
          test true = runs _ tt
          test false = runs _ tt

      over : (b q : ℕ) (t : Bool) → Calm (start_over p d b q t c)
      over b q true = erase b q (best p c d p.areas)
      over b q false = k

      go : (x : DeviceState) (s : Option SuspendedErase) → Calm (start_on p d x s c)
      go Free None = picked (best p c d p.areas) (best_ready p c d p.areas)
      go Free (Some s) = erase s.area s.polls (best p c d p.areas)
      go (LockedFor a) s = k
      go (Runs b q) None = over b q (p.suspends d && is_erase (c.jobs b).task.kind)
      go (Runs b q) (Some s) = k

  -- all devices pick
  second_calm : (c : Core) → Calm c → (n : ℕ) → Calm (second_half p n c)
  unfolding second_half
  second_calm c k zero = k
  second_calm c k (suc n) = start_calm n (second_half p n c) (second_calm c k n)

-- a job that needs no locked device counts none
count_unlocked : (p : Layout) (a : ℕ) (x : DeviceState) → Unlocked x → (w : Tally) → (count (wait_on p a x) w).locked ≡ w.locked
count_unlocked p a Free u w = refl
count_unlocked p a (LockedFor b) u w = absurd u
count_unlocked p a (Runs b q) u w = by_behind (λ k. (count k w).locked ≡ w.locked) p a b (λ _. refl) (λ _ _. refl) (λ _ _. refl)

-- of two tests none holds
neither : (s t : Bool) → (s || t) ≡ false → (s ≡ false) × (t ≡ false)
neither true t e = absurd (true≢false e)
neither false t e = (refl, e)

module _ (p : Plan) (L : (ages : ℕ → ℕ) → AgesApart ages → Laws (layout_at p ages) (admits p)) (a : ℕ) where
  -- no device that area a is on is locked, no pending lock request is of one, and area a's job has not waited for a lock
  abbrev Quiet : History → Type 0
  Quiet h = Calm (layout_of p) (is_on p a) h.core × ((h.tallies a).locked ≡ 0)

  -- an accepted job
  submitted_quiet : (b : ℕ) (t : Task) (h : History) → job_number p h.core b t ≡ 0 → job_locks p a (record { area = b; task = t }) ≡ false → Quiet h →
      Quiet (submitted p b t h)
  unfolding submitted begin layout_of
  submitted_quiet b t h e n k = (
    (k.0.0, changes (layout_of p) (is_on p a) h.core.jobs b _ (λ _ l. rw (l, accepted_admissible p h.core b t e) at n) k.0.1),
    upd_case (λ (w : Tally). w.locked ≡ 0) h.tallies b a no_tally (λ _. refl) (λ _. k.1),
  )

  -- an accepted cancel
  cancelled_quiet : (b : ℕ) (h : History) → cancel_number p h.core b ≡ 0 → Calm (layout_of p) (is_on p a) h.core →
      Calm (layout_of p) (is_on p a) (cancel (layout_of p) b h.core)
  unfolding cancel
  cancelled_quiet b h e k = go (holds b (h.core.devices (need (layout_of p) b (h.core.jobs b))))
    where
      go : (t : Bool) → Calm (layout_of p) (is_on p a) (cancel_if t b h.core)
      go true = (k.0, changes (layout_of p) (is_on p a) h.core.jobs b _ (λ _ l. k.1 b (cancel_admitted p h.core b e) l) k.1)
      go false = (k.0, changes (layout_of p) (is_on p a) h.core.jobs b _ (λ i. absurd (false≢true i)) k.1)

  -- an accepted round
  round_quiet : (answers : List DeviceAnswer) (m : Memory) (h : History) → HistoryFits p h → Quiet h → Quiet (round_of p answers m h)
  unfolding round_of
  round_quiet answers m h f k = (calm, go (is_pending (h.core.jobs a)) (is_pending (e.jobs a)) refl)
    where
      l : Layout
      l = layout_at p h.ages

      e : Core
      e = (round_halves p h.ages answers (lent m h)).core

      r : Reachable l (admits p) h.core
      r = at p L h.ages h.core f.reachable

      calm : Calm l (is_on p a) e
      calm =
          rw (round_core p answers (lent m h) h.ages)
          (second_calm l (is_on p a) _
          (first_calm l (is_on p a) (admits p) (L h.ages f.apart) (verdict_at p answers (lent m h)) h.core r k.0 l.devices) l.devices)

      go : (b t : Bool) → is_pending (e.jobs a) ≡ t → (close b t (wait_of l e a) (h.tallies a)).locked ≡ 0
      go false t i = k.1
      go true false i = k.1
      go true true i =
          let j = (passed r (round_started p L answers m h f).passes).jobs a i in
          let d = need l a (e.jobs a) in
          let free = calm.0 d (on_device p a (e.jobs a).task (e.jobs a).processed j.known j.admitted j.more) in
          count_unlocked l a (e.devices d).state free (h.tallies a) ∙ k.1

  -- every call; the later ones accept `later`
  step_quiet : (x : Call) (h : History) (later : List AreaJob) → HistoryFits p h → any_locks p a (accepted_by p x h later) ≡ false → Quiet h →
      Quiet (step p x h) × (any_locks p a later ≡ false)
  unfolding step any_locks release
  step_quiet (submit b t) h later f n k =
      by_eqb (job_number p h.core b t) 0
      (λ e z. let m = neither (job_locks p a (record { area = b; task = t })) (any_locks p a later) (rw e at n) in rw e (submitted_quiet b t h z m.0 k, m.1))
      (λ e _. rw e (k, rw e at n))
  step_quiet (releases b address i) h later f n k = (
    accept_case Quiet (release_number p h.core b address i) (λ _. ((moves (layout_of p) (is_on p a) h.core _ _ tt k.0.0, k.0.1), k.1)) k,
    n,
  )
  step_quiet (cancels b) h later f n k = (accept_case Quiet (cancel_number p h.core b) (λ e. (cancelled_quiet b h e k.0, k.1)) k, n)
  step_quiet (asks q) h later f n k = (k, n)
  step_quiet (round answers m) h later f n k = (accept_case Quiet (round_number p m.image m.store) (λ _. round_quiet answers m h f k) k, n)

  -- every list of calls
  run_quiet : (cs : List Call) (h : History) → HistoryFits p h → any_locks p a (accepted_jobs p cs h) ≡ false → Quiet h → Quiet (run p cs h)
  unfolding run accepted_jobs
  run_quiet [] h f n k = k
  run_quiet (x ∷ cs) h f n k =
      let s = step_quiet x h (accepted_jobs p cs (step p x h)) f n k in
      run_quiet cs (step p x h) (step_fits p L x h f) s.1 s.0

  -- at the start nothing is locked or pending
  start_quiet : Quiet fresh_history
  unfolding fresh_history
  start_quiet = ((λ d _. tt, λ b i. absurd (false≢true i)), refl)

  -- every list of calls from the start
  pub locked_none : (cs : List Call) → any_locks p a (accepted_jobs p cs fresh_history) ≡ false → ((run p cs fresh_history).tallies a).locked ≡ 0
  locked_none cs n = (run_quiet cs fresh_history (start_fits p L) n start_quiet).1

-- none of some jobs: neither the one in the middle nor any other
any_locks_one : (p : Plan) (a : ℕ) (before : List AreaJob) (j : AreaJob) (behind : List AreaJob) → any_locks p a (before ++ (j ∷ behind)) ≡ false →
    (job_locks p a j ≡ false) × (any_locks p a (before ++ behind) ≡ false)
unfolding any_locks
any_locks_one p a [] j behind e = neither (job_locks p a j) (any_locks p a behind) e
any_locks_one p a (i ∷ before) j behind e =
    let m = neither (job_locks p a i) (any_locks p a (before ++ (j ∷ behind))) e in
    let n = any_locks_one p a before j behind m.1 in
    (n.0, rw (m.0, n.1))

-- so of those that are taken from them
pub taken_locks : (p : Plan) (a : ℕ) (some all : List AreaJob) → TakenFrom some all → any_locks p a all ≡ false → any_locks p a some ≡ false
unfolding any_locks TakenFrom
taken_locks p a [] all k e = refl
taken_locks p a (j ∷ js) all (before, behind, q, k) e =
    let m = any_locks_one p a before j behind (rw q at e) in
    rw (m.0, taken_locks p a js (before ++ behind) k m.1)
