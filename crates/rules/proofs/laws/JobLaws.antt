-- What a call does to one area's job.
use Prim.Native.Nat.{ℕ, zero, suc, ◌+◌, ◌≤◌, ◌<◌}
use Rattle.std.specs.Prelude.{Bool, List, ◌≢◌, ◌⊎◌, ◌≡◌, ltb, leb, eqb}
use Rattle.std.proofs.Math.Bool.{true, false}
use Rattle.std.proofs.Common.{true≢false, inl, inr, sym, ◌∙◌, le_refl, arith}
use Rattle.std.proofs.lemmas.Bool.{false≢true}
use Rattle.std.proofs.Math.Path.{refl, ap, subst}
use borrow.Author.Tests.{eq-eqb, ne_eqb, lt-ltb, le-ltb, le-leb, lt-leb, leb-true, leb-false}
use Rattle.arith.specs.Bounded.{below_suc}
use Rattle.arith.specs.Parts.{upd, upd_same, upd_other, same_or}
use Rattle.memory.specs.declared.DeviceAnswer.{DeviceAnswer}
use Rattle.memory.specs.declared.DeviceAnswer.TheVariants as Answers
use Rattle.memory.specs.declared.JobStatus.{JobStatus}
use Rattle.memory.specs.declared.JobStatus.TheVariants.{Idle, Pending, Cancelling}
use Rattle.memory.specs.declared.JobType.{JobType}
use Rattle.memory.specs.declared.JobType.TheVariants.{NoJob, Write, Read, Compare, Erase, BlankCheck, Lock}
use Rattle.memory.specs.declared.Task.{Task}
use Rattle.plan.specs.Questions.{sub_area_of}
use Rattle.plan.specs.WellFormed.{WellFormed}
use Rattle.plan.specs.declared.records.Plan.{Plan}
use Rattle.plan.specs.declared.records.SubAreaRecord.{SubAreaRecord}
use Rattle.segment.specs.laws.MappingLaws.{address_in, Place, place_mapped}
use Rattle.segment.specs.laws.SegmentLaws.{Admitted, job_place, segment_is}
use Rattle.segment.specs.Segments.{is_lock, retries_of}
use Rattle.state.specs.declared.DeviceState.TheVariants.{Runs}
use Rattle.state.specs.declared.Job.{Job}
use Rattle.rules.specs.Admission.{admits, job_number, release_number, cancel_number, round_number}
use Rattle.rules.proofs.laws.Admitted.{job_admitted}
use Rattle.rules.proofs.laws.Best.{ready_plain}
use Rattle.rules.specs.History.{Call, submit, releases, cancels, asks, round, History, lent, submitted, round_of, step}
use Rattle.rules.specs.statements.Jobs.{JobAnswered, JobWaited, OfOthers, is_done, is_over, agrees_due}
use Rattle.rules.specs.statements.Pieces.{HasPlace, PieceRetries}
use Rattle.rules.specs.Layout.{Layout, layout_of, layout_at}
use Rattle.rules.specs.Machine.{Core, Verdict, goes_on, finished, differs, failed, is_pending_status, is_pending, is_cancelling, due, need, holds, begun, ended, cancelled, after_failed, job_failed, after_finished, job_finished, after_differs, job_differs, take_running, take_answer, second_half, cancel_if, cancel, begin, release}
use Rattle.rules.specs.Memory.{Memory, verdict_of}
use Rattle.rules.proofs.laws.Reachable.{Reachable}
use Rattle.rules.proofs.laws.Requests.{running_on, one_device}
use Rattle.rules.specs.Round.{Half, answer_for, window_place, verdict_on, take_in, take_all, round_halves}
use Rattle.rules.proofs.laws.StepLaws.{job_taken, take_case, untouched, start_case, accept_case}

-- the retries of the segment at a byte of an admitted job are those of the plan's records
retries_by : (k : JobType) (s : SubAreaRecord) → (k ≡ Write → retries_of k s ≡ s.write_retries) × (k ≡ Erase → retries_of k s ≡ s.erase_retries)
    × (k ≢ Write → k ≢ Erase → retries_of k s ≡ 0)
retries_by k s = (λ e. rw e, λ e. rw e, others k)
  where
    others : (k : JobType) → k ≢ Write → k ≢ Erase → retries_of k s ≡ 0
    others NoJob f g = refl
    others Write f g = absurd (f refl)
    others Read f g = refl
    others Compare f g = refl
    others Erase f g = absurd (g refl)
    others BlankCheck f g = refl
    others Lock f g = refl

pub place_some : {p : Plan} {a : ℕ} {t : Task} → Admitted p a t → (x : ℕ) → x < t.length → HasPlace p a t x
place_some {p} {a} f x h =
    let (i, y, g) = job_place f x h in
    record { sub_area = i; offset = y; physical = address_in p i y; found = place_mapped p a g }

pub plan_retries_at : (p : Plan) (a : ℕ) (t : Task) (x : ℕ) {i y : ℕ} → Place p a (t.address.0 + x) i y →
    PieceRetries p a t x (retries_of t.kind (sub_area_of p.sub_areas i))
plan_retries_at p a t x {i} {y} g =
    let s = retries_by t.kind (sub_area_of p.sub_areas i) in
    record { place = record { sub_area = i; offset = y; physical = address_in p i y; found = place_mapped p a g }; write = s.0; erase = s.1; others = s.2 }

pub plan_retries : (p : Plan) (a : ℕ) (t : Task) → Admitted p a t → (x : ℕ) → x < t.length → PieceRetries p a t x ((layout_of p).segment a t x).retries
unfolding layout_of
plan_retries p a t f x h =
    let (i, y, g) = job_place f x h in
    rw (segment_is p a t x g) (plan_retries_at p a t x g)

module _ (p : Plan) (answers : List DeviceAnswer) (h : Half) (r : Reachable (layout_of p) (admits p) h.core) (a : ℕ) where
  -- the verdict and the job where area a's request runs on device d
  abbrev taken_job : ℕ → ℕ → Job
  taken_job d q =
      job_taken (layout_of p) a (verdict_on p (Runs a q) (answer_for answers d) h.core.jobs (take_all p answers d h).memory)
      (ltb (q + 1) ((layout_of p).limit d)) (h.core.jobs a)

  -- no device but d runs area a: the others leave its job
  pub first_rest : (n : ℕ) → ((d q : ℕ) → d < n → (h.core.devices d).state ≡ Runs a q → ⊥) → (take_all p answers n h).core.jobs a ≡ h.core.jobs a
  unfolding take_all
  first_rest zero f = refl
  first_rest (suc n) f =
      take_case p n (answer_for answers n) (take_all p answers n h) a (λ j _. j ≡ h.core.jobs a)
      (λ q e. absurd (f n q (omega arith) (sym (ap (λ x. x.state) (untouched p answers h r n n (le_refl n)).device) ∙ e)))
      (first_rest n (λ d q l. f d q (omega arith)))

  -- device d takes its answer
  take_own : (d q : ℕ) (x : DeviceAnswer) (e : Half) → (e.core.devices d).state ≡ Runs a q → e.core.jobs a ≡ h.core.jobs a →
      (take_in p d x e).core.jobs a
      ≡ job_taken (layout_of p) a (verdict_on p (Runs a q) x h.core.jobs e.memory) (ltb (q + 1) ((layout_of p).limit d)) (h.core.jobs a)
  unfolding take_in take_answer
  take_own d q x e s j = rw (s, ← j) (go (verdict_on p (Runs a q) x e.core.jobs e.memory) (ltb (q + 1) ((layout_of p).limit d)))
    where
      go : (v : Verdict) (t : Bool) → (take_running (layout_of p) d a q v t e.core).jobs a ≡ job_taken (layout_of p) a v t (e.core.jobs a)
      go goes_on true = refl
      go goes_on false = upd_same _ a _
      go finished t = upd_same _ a _
      go differs t = upd_same _ a _
      go failed t = upd_same _ a _

  pub first_own : (d q : ℕ) → (h.core.devices d).state ≡ Runs a q → (n : ℕ) → d < n → (take_all p answers n h).core.jobs a ≡ taken_job d q
  unfolding take_all
  first_own d q runs zero l = absurd (omega arith)
  first_own d q runs (suc n) l =
      below_suc d n l
      (λ e. subst (λ n. (take_in p n (answer_for answers n) (take_all p answers n h)).core.jobs a ≡ taken_job d q) e
      (let same = untouched p answers h r d d (le_refl d) in
      take_own d q (answer_for answers d) (take_all p answers d h) (ap (λ x. x.state) same.device ∙ runs) (same.job a q runs)))
      (λ k.
      take_case p n (answer_for answers n) (take_all p answers n h) a (λ j _. j ≡ taken_job d q)
      (λ u e.
      let other = one_device r runs (sym (ap (λ x. x.state) (untouched p answers h r n n (le_refl n)).device) ∙ e) in
      absurd (omega arith))
      (first_own d q runs n k))

-- a job stays, or its lock request is given
abbrev pub JobGiven : Job → Job → Type 0
JobGiven j k = (k ≡ j) ⊎ ((is_pending j ≡ true) × (is_lock j.task.kind ≡ true) × (k ≡ ended 0 j))

-- a lock request that is pending is given
given : (j : Job) (jobs : ℕ → Job) (a : ℕ) → is_pending (jobs a) ≡ true → is_lock (jobs a).task.kind ≡ true → JobGiven j (jobs a) →
    JobGiven j (upd jobs a (ended 0 (jobs a)) a)
given j jobs a u v (inl e) = inr (sym (ap is_pending e) ∙ u, sym (ap (λ j. is_lock j.task.kind) e) ∙ v, upd_same jobs a (ended 0 (jobs a)) ∙ ap (ended 0) e)
given j jobs a u v (inr e) = absurd (false≢true (sym (ap is_pending e.2) ∙ u))

-- the second half leaves a job, or gives its lock request
pub second_job : (p : Layout) (c : Core) (a n : ℕ) → JobGiven (c.jobs a) ((second_half p n c).jobs a)
unfolding second_half
second_job p c a zero = inl refl
second_job p c a (suc n) =
    let before = second_half p n c in
    let ih = second_job p c a n in
    start_case (λ e. JobGiven (c.jobs a) (e.jobs a)) p n before ih
    (λ b _ r k.
    same_or (λ b. is_pending (before.jobs b) ≡ true → is_lock (before.jobs b).task.kind ≡ true →
    JobGiven (c.jobs a) (upd before.jobs b (ended 0 (before.jobs b)) a)) a b
    (λ u v. given (c.jobs a) before.jobs a u v ih)
    (λ f _ _. rw (upd_other before.jobs b a (ended 0 (before.jobs b)) (λ g. f (sym g))) ih)
    ((ready_plain p before n b).0 r).0 k)
    (λ y _. ih)

pub given_waited : (j k : Job) → JobGiven j k → JobWaited j k
given_waited j k (inl e) = inl e
given_waited j k (inr e) = inr (e.0, e.1, rw e.2 (record { task = refl; processed = refl; status = refl; result = refl }))

-- an answer leaves the task
pub taken_task : (p : Layout) (a : ℕ) (v : Verdict) (t : Bool) (j : Job) → (job_taken p a v t j).task ≡ j.task
unfolding job_failed job_finished job_differs
taken_task p a v t j = go v t
  where
    failed_task : (job_failed j).task ≡ j.task
    failed_task = cases (is_cancelling j.status) (eqb j.retries_left 0)
      where
        cases : (s t : Bool) → (after_failed s t j).task ≡ j.task
        cases true t = refl
        cases false true = refl
        cases false false = refl

    finished_task : (job_finished p a j).task ≡ j.task
    finished_task = cases (is_cancelling j.status) (leb j.task.length (j.processed + (due p a j).length))
      where
        cases : (s t : Bool) → (after_finished s t (j.processed + (due p a j).length) (p.segment a j.task (j.processed + (due p a j).length)).retries j).task ≡ j.task
        cases true t = refl
        cases false true = refl
        cases false false = refl

    differs_task : (job_differs j).task ≡ j.task
    differs_task = cases (is_cancelling j.status)
      where
        cases : (s : Bool) → (after_differs s j).task ≡ j.task
        cases true = refl
        cases false = refl

    go : (v : Verdict) (t : Bool) → (job_taken p a v t j).task ≡ j.task
    go goes_on true = refl
    go goes_on false = failed_task
    go finished t = finished_task
    go differs t = differs_task
    go failed t = failed_task

taken_own : (p : Plan) (answers : List DeviceAnswer) (h : Half) (r : Reachable (layout_of p) (admits p) h.core) (a d q : ℕ) →
    (taken_job p answers h r a d q).task ≡ (h.core.jobs a).task
taken_own p answers h r a d q =
    taken_task (layout_of p) a (verdict_on p (Runs a q) (answer_for answers d) h.core.jobs (take_all p answers d h).memory)
    (ltb (q + 1) ((layout_of p).limit d)) (h.core.jobs a)

-- What a device's answer x comes to for area a's job j, whose request runs there: t tells whether polls are below the limit.
module _ (p : Plan) (w : WellFormed p) (d a q : ℕ) (j : Job) (m : Memory) (x : DeviceAnswer) (f : Admitted p a j.task)
    (few : j.processed + (due (layout_of p) a j).length ≤ j.task.length) where
  abbrev limit : ℕ
  limit = (layout_of p).limit d

  abbrev next : ℕ
  next = j.processed + (due (layout_of p) a j).length

  abbrev taken : DeviceAnswer → Job
  taken y =
      let s = due (layout_of p) a j in
      job_taken (layout_of p) a (verdict_of y j.task.kind s.start.0 (window_place p a j) s.length m) (ltb (q + 1) limit) j

  -- no verdict yet
  goes_on_lem : (y : DeviceAnswer) → is_over limit q y ≡ false → taken y ≡ j
  goes_on_lem Answers.Pending e = rw (lt-ltb (q + 1) limit (leb-false limit (q + 1) e)) refl
  goes_on_lem Answers.Done e = absurd (true≢false e)
  goes_on_lem (Answers.Failed b) e = absurd (true≢false e)

  -- it failed
  fails : (y : DeviceAnswer) → is_done y ≡ false → is_over limit q y ≡ true → taken y ≡ job_failed j
  fails Answers.Pending u e = rw (le-ltb (q + 1) limit (leb-true limit (q + 1) e)) refl
  fails Answers.Done u e = absurd (true≢false u)
  fails (Answers.Failed b) u e = refl

  -- it is done
  ends_well : (y : DeviceAnswer) → is_done y ≡ true → agrees_due p a j m ≡ true → taken y ≡ job_finished (layout_of p) a j
  ends_well Answers.Pending u e = absurd (false≢true u)
  ends_well Answers.Done u e = rw e refl
  ends_well (Answers.Failed b) u e = absurd (false≢true u)

  -- with a byte that differs
  ends_other : (y : DeviceAnswer) → is_done y ≡ true → agrees_due p a j m ≡ false → taken y ≡ job_differs j
  ends_other Answers.Pending u e = absurd (false≢true u)
  ends_other Answers.Done u e = rw e refl
  ends_other (Answers.Failed b) u e = absurd (false≢true u)

  -- the job by the rules
  pub answered_so : JobAnswered p d a q x (agrees_due p a j m) j (taken x)
  unfolding job_failed job_finished job_differs layout_of
  answered_so =
      record {
        waits = goes_on_lem x;
        retried = λ u e c r l. rw (fails x u e, c, ne_eqb j.retries_left 0 (λ z. absurd (omega arith))) (record { task = refl; processed = refl; status = refl; result = refl }, omega arith);
        given_up = λ u e c l. rw (fails x u e, c, eq-eqb j.retries_left 0 l) (record { task = refl; processed = refl; status = refl; result = refl });
        next = λ u e c l.
            rw (ends_well x u e, c, lt-leb j.task.length next l)
            (record { task = refl; processed = refl; status = refl; result = refl }, plan_retries p a j.task f next l);
        last = λ u e c l. rw (ends_well x u e, c, le-leb j.task.length next l) (record { task = refl; processed = omega arith; status = refl; result = refl });
        differs = λ u e c. rw (ends_other x u e, c) (record { task = refl; processed = refl; status = refl; result = refl });
        cancelled_done = λ u e c. rw (ends_well x u e, c) (record { task = refl; processed = refl; status = refl; result = refl });
        cancelled_differs = λ u e c. rw (ends_other x u e, c) (record { task = refl; processed = refl; status = refl; result = refl });
        cancelled_failed = λ u e c. rw (fails x u e, c) (record { task = refl; processed = refl; status = refl; result = refl });
      }

module _ (p : Plan) (h : History) (r : Reachable (layout_of p) (admits p) h.core) (a : ℕ) (answers : List DeviceAnswer) (m : Memory)
    (accepted : round_number p m.image m.store ≡ 0) where
  -- an accepted round
  pub step_round : step p (round answers m) h ≡ round_of p answers m h
  unfolding step
  step_round = rw (eq-eqb (round_number p m.image m.store) 0 accepted) refl

  -- the job whose request runs
  pub round_own : (d q : ℕ) → d < p.device_count → (h.core.devices d).state ≡ Runs a q →
      (step p (round answers m) h).core.jobs a ≡ taken_job p answers (lent m h) r a d q
  unfolding round_of round_halves
  round_own d q l runs = ap (λ (e : History). e.core.jobs a) step_round ∙ go (second_job (layout_at p h.ages) c a p.device_count)
    where
      c : Core
      c = (take_all p answers p.device_count (lent m h)).core

      first : c.jobs a ≡ taken_job p answers (lent m h) r a d q
      first = first_own p answers (lent m h) r a d q runs p.device_count l

      go : JobGiven (c.jobs a) ((second_half (layout_at p h.ages) p.device_count c).jobs a) →
          (second_half (layout_at p h.ages) p.device_count c).jobs a ≡ taken_job p answers (lent m h) r a d q
      go (inl e) = e ∙ first
      go (inr e) =
          absurd (true≢false (sym e.1 ∙ ap (λ j. is_lock j.task.kind) first
          ∙ ap (λ (t : Task). is_lock t.kind) (taken_own p answers (lent m h) r a d q) ∙ (running_on r runs).no_lock))

  -- a job of which no request runs
  pub round_rest : ((d q : ℕ) → (h.core.devices d).state ≡ Runs a q → ⊥) → JobWaited (h.core.jobs a) ((step p (round answers m) h).core.jobs a)
  unfolding round_of round_halves
  round_rest f =
      rw step_round
      (subst (λ j. JobWaited j ((second_half (layout_at p h.ages) p.device_count c).jobs a))
      (first_rest p answers (lent m h) r a p.device_count (λ d q _. f d q)) (given_waited (c.jobs a) _ (second_job (layout_at p h.ages) c a p.device_count)))
    where
      c : Core
      c = (take_all p answers p.device_count (lent m h)).core

-- a call that is not of area a's job leaves it
pub others_keep : (p : Plan) (h : History) (a : ℕ) (k : Call) → OfOthers a k → (step p k h).core.jobs a ≡ h.core.jobs a
unfolding step submitted begin release cancel
others_keep p h a (submit b t) f =
    accept_case (λ (e : History). e.core.jobs a ≡ h.core.jobs a) (job_number p h.core b t) (λ _. upd_other h.core.jobs b a _ f) refl
others_keep p h a (releases b address n) f =
    accept_case (λ (e : History). e.core.jobs a ≡ h.core.jobs a) (release_number p h.core b address n) (λ _. refl) refl
others_keep p h a (cancels b) f =
    accept_case (λ (e : History). e.core.jobs a ≡ h.core.jobs a) (cancel_number p h.core b)
    (λ _. go (holds b (h.core.devices (need (layout_of p) b (h.core.jobs b))))) refl
  where
    go : (t : Bool) → (cancel_if t b h.core).jobs a ≡ h.core.jobs a
    go true = upd_other h.core.jobs b a _ f
    go false = upd_other h.core.jobs b a _ f
others_keep p h a (asks q) f = refl
others_keep p h a (round answers m) f = absurd f

-- the status stays, or the job is over
data StatusKept (j k : Job) : Type 0 where
  stays : k.status ≡ j.status → StatusKept j k
  over : is_pending k ≡ false → StatusKept j k

taken_status : (p : Layout) (a : ℕ) (v : Verdict) (t : Bool) (j : Job) → StatusKept j (job_taken p a v t j)
unfolding job_failed job_finished job_differs
taken_status p a v t j = go v t
  where
    x : ℕ
    x = j.processed + (due p a j).length

    fails : (s t : Bool) → StatusKept j (after_failed s t j)
    fails true t = over refl
    fails false true = over refl
    fails false false = stays refl

    ends : (s t : Bool) → StatusKept j (after_finished s t x (p.segment a j.task x).retries j)
    ends true t = over refl
    ends false true = over refl
    ends false false = stays refl

    other : (s : Bool) → StatusKept j (after_differs s j)
    other true = over refl
    other false = over refl

    go : (v : Verdict) (t : Bool) → StatusKept j (job_taken p a v t j)
    go goes_on true = stays refl
    go goes_on false = fails (is_cancelling j.status) (eqb j.retries_left 0)
    go finished t = ends (is_cancelling j.status) (leb j.task.length x)
    go differs t = other (is_cancelling j.status)
    go failed t = fails (is_cancelling j.status) (eqb j.retries_left 0)

status_on : {i j k : Job} → StatusKept i j → StatusKept j k → StatusKept i k
status_on (stays e) (stays f) = stays (f ∙ e)
status_on (over e) (stays f) = over (ap is_pending_status f ∙ e)
status_on e (over f) = over f

first_status : (p : Plan) (answers : List DeviceAnswer) (h : Half) (a n : ℕ) → StatusKept (h.core.jobs a) ((take_all p answers n h).core.jobs a)
unfolding take_all
first_status p answers h a zero = stays refl
first_status p answers h a (suc n) =
    let before = take_all p answers n h in
    let ih = first_status p answers h a n in
    take_case p n (answer_for answers n) before a (λ j _. StatusKept (h.core.jobs a) j)
    (λ q e. status_on ih (taken_status (layout_of p) a (verdict_on p (Runs a q) (answer_for answers n) before.core.jobs before.memory)
    (ltb (q + 1) ((layout_of p).limit n)) (before.core.jobs a)))
    ih

given_status : (j k : Job) → JobGiven j k → StatusKept j k
given_status j k (inl e) = stays (ap (λ j. j.status) e)
given_status j k (inr e) = over (ap is_pending e.2)

-- a round leaves the status, or the job is over
round_status : (p : Plan) (h : History) (a : ℕ) (answers : List DeviceAnswer) (m : Memory) →
    StatusKept (h.core.jobs a) ((step p (round answers m) h).core.jobs a)
unfolding step round_of round_halves
round_status p h a answers m =
    accept_case (λ (e : History). StatusKept (h.core.jobs a) (e.core.jobs a)) (round_number p m.image m.store)
    (λ _. status_on (first_status p answers (lent m h) a p.device_count)
    (given_status ((take_all p answers p.device_count (lent m h)).core.jobs a) _ (second_job (layout_at p h.ages) (take_all p answers p.device_count (lent m h)).core a p.device_count)))
    (stays refl)

cancelling_pends : (s : JobStatus) → is_cancelling s ≡ true → is_pending_status s ≡ true
cancelling_pends Idle e = e
cancelling_pends Pending e = refl
cancelling_pends Cancelling e = refl

kept_by : {j k : Job} → StatusKept j k → is_cancelling k.status ≡ true → is_cancelling j.status ≡ true
kept_by (stays e) c = sym (ap is_cancelling e) ∙ c
kept_by {k = k} (over e) c = absurd (true≢false (sym (cancelling_pends k.status c) ∙ e))

kept_till : {j k : Job} → StatusKept j k → is_cancelling j.status ≡ true → is_pending k ≡ true → is_cancelling k.status ≡ true
kept_till (stays e) c f = ap is_cancelling e ∙ c
kept_till (over e) c f = absurd (true≢false (sym f ∙ e))

-- a job is cancelled by an accepted cancel of its area, and by nothing else
pub cancelled_by : (p : Plan) (h : History) (a : ℕ) (k : Call) → is_cancelling ((step p k h).core.jobs a).status ≡ true →
    (is_cancelling (h.core.jobs a).status ≡ true) ⊎ ((k ≡ cancels a) × (cancel_number p h.core a ≡ 0))
unfolding step submitted begin
cancelled_by p h a (submit b t) =
    same_or (λ b. is_cancelling ((step p (submit b t) h).core.jobs a).status ≡ true →
    (is_cancelling (h.core.jobs a).status ≡ true) ⊎ ((submit b t ≡ cancels a) × (cancel_number p h.core a ≡ 0))) a b
    (accept_case (λ (e : History). is_cancelling (e.core.jobs a).status ≡ true → (is_cancelling (h.core.jobs a).status ≡ true)
    ⊎ ((submit a t ≡ cancels a) × (cancel_number p h.core a ≡ 0))) (job_number p h.core a t)
    (λ _ c. absurd (false≢true (sym (ap (λ j. is_cancelling j.status) (upd_same h.core.jobs a (begun (layout_of p) a t (h.core.jobs a)))) ∙ c)))
    (λ c. inl c))
    (λ f c. inl (sym (ap (λ j. is_cancelling j.status) (others_keep p h a (submit b t) (λ g. f (sym g)))) ∙ c))
cancelled_by p h a (releases b address n) = λ c. inl (sym (ap (λ j. is_cancelling j.status) (others_keep p h a (releases b address n) tt)) ∙ c)
cancelled_by p h a (cancels b) =
    same_or (λ b. is_cancelling ((step p (cancels b) h).core.jobs a).status ≡ true →
    (is_cancelling (h.core.jobs a).status ≡ true) ⊎ ((cancels b ≡ cancels a) × (cancel_number p h.core a ≡ 0))) a b
    (accept_case (λ (e : History). is_cancelling (e.core.jobs a).status ≡ true → (is_cancelling (h.core.jobs a).status ≡ true)
    ⊎ ((cancels a ≡ cancels a) × (cancel_number p h.core a ≡ 0))) (cancel_number p h.core a) (λ e _. inr (refl, e)) (λ c. inl c))
    (λ f c. inl (sym (ap (λ j. is_cancelling j.status) (others_keep p h a (cancels b) (λ g. f (sym g)))) ∙ c))
cancelled_by p h a (asks q) = λ c. inl c
cancelled_by p h a (round answers m) = λ c. inl (kept_by (round_status p h a answers m) c)

-- a cancelled job is one until it ends
pub cancelled_till : (p : Plan) (h : History) (a : ℕ) (k : Call) → is_cancelling (h.core.jobs a).status ≡ true →
    is_pending ((step p k h).core.jobs a) ≡ true → is_cancelling ((step p k h).core.jobs a).status ≡ true
unfolding step cancel
cancelled_till p h a (submit b t) c =
    same_or (λ b. is_pending ((step p (submit b t) h).core.jobs a) ≡ true → is_cancelling ((step p (submit b t) h).core.jobs a).status ≡ true) a b
    (accept_case (λ (e : History). is_pending (e.core.jobs a) ≡ true → is_cancelling (e.core.jobs a).status ≡ true) (job_number p h.core a t)
    (λ e. absurd (true≢false (sym (cancelling_pends (h.core.jobs a).status c) ∙ (job_admitted p h.core a t e).1)))
    (λ _. c))
    (λ f _. ap (λ j. is_cancelling j.status) (others_keep p h a (submit b t) (λ g. f (sym g))) ∙ c)
cancelled_till p h a (releases b address n) c = λ _. ap (λ j. is_cancelling j.status) (others_keep p h a (releases b address n) tt) ∙ c
cancelled_till p h a (cancels b) c =
    same_or (λ b. is_pending ((step p (cancels b) h).core.jobs a) ≡ true → is_cancelling ((step p (cancels b) h).core.jobs a).status ≡ true) a b
    (accept_case (λ (e : History). is_pending (e.core.jobs a) ≡ true → is_cancelling (e.core.jobs a).status ≡ true) (cancel_number p h.core a)
    (λ _. go (holds a (h.core.devices (need (layout_of p) a (h.core.jobs a)))))
    (λ _. c))
    (λ f _. ap (λ j. is_cancelling j.status) (others_keep p h a (cancels b) (λ g. f (sym g))) ∙ c)
  where
    go : (t : Bool) → is_pending ((cancel_if t a h.core).jobs a) ≡ true → is_cancelling ((cancel_if t a h.core).jobs a).status ≡ true
    go true _ = ap (λ j. is_cancelling j.status) (upd_same h.core.jobs a (cancelled (h.core.jobs a)))
    go false e = absurd (false≢true (sym (ap is_pending (upd_same h.core.jobs a (ended 3 (h.core.jobs a)))) ∙ e))
cancelled_till p h a (asks q) c = λ _. c
cancelled_till p h a (round answers m) c = λ e. kept_till (round_status p h a answers m) c e
