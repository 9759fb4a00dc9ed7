-- document 02, 05: every erase in the history is whole sectors of its sub-area.
use Prim.Native.Nat.{ℕ, zero, suc}
use Rattle.std.specs.Prelude.{Bool, true, false, ◌≡◌}
use Rattle.std.proofs.lemmas.Bool.{false≢true}
use mathlib.Core.List.{List, [], ◌∷◌, ◌++◌}
use Rattle.std.proofs.Math.Path.{refl}
use Rattle.std.proofs.Common.{sym, ap, ◌∙◌, le_refl, arith}
use Rattle.arith.specs.Cases.{by_eqb}
use Rattle.memory.specs.declared.DeviceAnswer.{DeviceAnswer}
use Rattle.memory.specs.declared.JobType.{JobType}
use Rattle.memory.specs.declared.JobType.TheVariants.{NoJob, Write, Read, Compare, Erase, BlankCheck, Lock}
use Rattle.memory.specs.declared.Task.{Task}
use Rattle.plan.specs.WellFormed.{WellFormed}
use Rattle.plan.specs.declared.records.Plan.{Plan}
use Rattle.segment.specs.Segments.{is_erase}
use Rattle.segment.specs.declared.Segment.{Segment}
use Rattle.segment.specs.laws.SegmentLaws.{Good, segment_good}
use Rattle.state.specs.declared.DeviceState.{DeviceState}
use Rattle.state.specs.declared.DeviceState.TheVariants.{Free, Runs, LockedFor}
use Rattle.state.specs.declared.Job.{Job}
use Rattle.rules.specs.Admission.{admits, job_number, release_number, cancel_number, round_number}
use Rattle.rules.specs.History.{Call, submit, releases, cancels, asks, round, History, lent, round_of, submitted, step, run}
use Rattle.rules.specs.Layout.{layout_of}
use Rattle.rules.specs.Machine.{Verdict, goes_on, finished, differs, failed, due}
use Rattle.rules.specs.Round.{Half, answer_for, verdict_in, take_all, add_erase, erases_on, erases_to, round_erases}
use Rattle.rules.specs.Wear.{sectors_of}
use Rattle.rules.proofs.laws.PlanLaws.{admitted}
use Rattle.rules.proofs.laws.Reachable.{Reachable}
use Rattle.rules.proofs.laws.Requests.{AtCuts, running_on}
use Rattle.rules.proofs.laws.StepLaws.{untouched, accept_case}
use Rattle.rules.proofs.laws.WearLaws.{sectors_whole}
use Rattle.rules.specs.statements.Erases.{WholeSectors, AllWhole}

erase_kind : (k : JobType) → is_erase k ≡ true → k ≡ Erase
erase_kind Erase e = refl
erase_kind NoJob e = absurd (false≢true e)
erase_kind Write e = absurd (false≢true e)
erase_kind Read e = absurd (false≢true e)
erase_kind Compare e = absurd (false≢true e)
erase_kind BlankCheck e = absurd (false≢true e)
erase_kind Lock e = absurd (false≢true e)

module _ (p : Plan) (w : WellFormed p) where
  -- a segment of an erase
  whole_of : {a : ℕ} {t : Task} {s : Segment} {left : ℕ} → t.kind ≡ Erase → Good p a t s left → WholeSectors p s
  whole_of {s = s} e g =
      let whole = sectors_whole p e g in
      record {
        known = rw g.sub_area_is g.known;
        after_start = rw g.sub_area_is g.after_start;
        before_end = rw g.sub_area_is g.before_end;
        whole = whole;
        some = by_eqb (sectors_of p s) 0 (λ _ z. absurd (omega (arith, g.length_some, rw z at whole))) (λ _ z. omega arith);
      }

  -- both lists
  join : (l m : List Segment) → AllWhole p l → AllWhole p m → AllWhole p (l ++ m)
  join [] m f g = g
  join (s ∷ l) m f g = (f.0, join l m f.1 g)

  -- what an answer finishes
  added : (v : Verdict) (k : JobType) (s : Segment) (l : List Segment) → (k ≡ Erase → WholeSectors p s) → AllWhole p l → AllWhole p (add_erase v k s l)
  added finished k s l f g = go (is_erase k) refl
    where
      go : (t : Bool) → is_erase k ≡ t → AllWhole p (add_erase finished k s l)
      go true e = rw e (f (erase_kind k e), g)
      go false e = rw e g
  added goes_on k s l f g = g
  added differs k s l f g = g
  added failed k s l f g = g

  module _ (answers : List DeviceAnswer) (h : Half) (r : Reachable (layout_of p) (admits p) h.core) (cuts : AtCuts p h.core) where
    -- the request of an area that runs is a segment that its job is cut into
    running_whole : (d a q : ℕ) → (h.core.devices d).state ≡ Runs a q → (j : Job) → j ≡ h.core.jobs a → j.task.kind ≡ Erase →
        WholeSectors p (due (layout_of p) a j)
    unfolding layout_of
    running_whole d a q runs j same e =
        let pending = (running_on r runs).pending in
        let f = r.jobs a pending in
        rw same (whole_of (sym (ap (λ i. i.task.kind) same) ∙ e) (segment_good p w a _ (admitted p a _ f.known f.admitted) (cuts a pending) f.more))

    -- one device takes its answer
    turn_whole : (n : ℕ) → AllWhole p (erases_to p answers n h) → (x : DeviceState) → ((take_all p answers n h).core.devices n).state ≡ x →
        AllWhole p (erases_on p x (verdict_in p n (answer_for answers n) (take_all p answers n h)) (take_all p answers n h).core.jobs (erases_to p answers n h))
    turn_whole n f Free e = f
    turn_whole n f (LockedFor a) e = f
    turn_whole n f (Runs a q) e =
        let same = untouched p answers h r n n (le_refl n) in
        let runs = sym (ap (λ x. x.state) same.device) ∙ e in
        added (verdict_in p n (answer_for answers n) (take_all p answers n h)) _ _ _ (running_whole n a q runs _ (same.job a q runs)) f

    first_half_whole : (n : ℕ) → AllWhole p (erases_to p answers n h)
    unfolding erases_to
    first_half_whole zero = tt
    first_half_whole (suc n) = turn_whole n (first_half_whole n) ((take_all p answers n h).core.devices n).state refl

  -- every call keeps it
  erases_kept : (c : Call) (h : History) → Reachable (layout_of p) (admits p) h.core → AtCuts p h.core → AllWhole p h.erases → AllWhole p (step p c h).erases
  unfolding step round_of submitted
  erases_kept (submit a t) h r cuts f = accept_case (λ (e : History). AllWhole p e.erases) (job_number p h.core a t) (λ _. f) f
  erases_kept (releases a address n) h r cuts f = accept_case (λ (e : History). AllWhole p e.erases) (release_number p h.core a address n) (λ _. f) f
  erases_kept (cancels a) h r cuts f = accept_case (λ (e : History). AllWhole p e.erases) (cancel_number p h.core a) (λ _. f) f
  erases_kept (asks q) h r cuts f = f
  erases_kept (round answers m) h r cuts f =
      accept_case (λ (e : History). AllWhole p e.erases) (round_number p m.image m.store)
      (λ _. join (round_erases p answers (lent m h)) h.erases (first_half_whole answers (lent m h) r cuts p.device_count) f)
      f

  -- and so does every list of calls
  pub erases_whole : (cs : List Call) (h : History) →
      ((ds : List Call) → Reachable (layout_of p) (admits p) (run p ds h).core) → ((ds : List Call) → AtCuts p (run p ds h).core) →
      AllWhole p h.erases → AllWhole p (run p cs h).erases
  unfolding run
  erases_whole [] h r cuts f = f
  erases_whole (c ∷ cs) h r cuts f = erases_whole cs (step p c h) (λ ds. r (c ∷ ds)) (λ ds. cuts (c ∷ ds)) (erases_kept c h (r []) (cuts []) f)
