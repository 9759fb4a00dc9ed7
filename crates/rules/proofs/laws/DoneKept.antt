-- Every call keeps what holds of the areas' latest jobs and their done requests.
use Prim.Native.Nat.{ℕ, zero, suc, ◌+◌}
use Rattle.std.specs.Prelude.{Bool, ◌≡◌, ltb}
use Rattle.std.proofs.Math.Bool.{true, false}
use Rattle.std.proofs.Common.{true≢false, ap, ◌∙◌, le_refl, arith}
use Rattle.std.proofs.lemmas.Bool.{false≢true}
use mathlib.Core.List.{List, [], ◌∷◌}
use Rattle.std.proofs.Math.Path.{refl, sym}
use Rattle.arith.specs.Listed.{listed}
use Rattle.arith.specs.Parts.{upd, upd_same, upd_other, same_or}
use Rattle.memory.specs.declared.DeviceAnswer.{DeviceAnswer}
use Rattle.memory.specs.declared.Task.{Task}
use Rattle.plan.specs.WellFormed.{WellFormed}
use Rattle.plan.specs.declared.records.Plan.{Plan}
use Rattle.segment.specs.Bytes.{joined, mapped_bytes}
use Rattle.segment.specs.laws.CutLaws.{at_start}
use Rattle.segment.specs.laws.SegmentLaws.{Admitted}
use Rattle.segment.specs.declared.Segment.{Segment}
use Rattle.state.specs.declared.DeviceState.TheVariants.{Runs}
use Rattle.state.specs.declared.Job.{Job}
use Rattle.rules.proofs.laws.Admitted.{job_admitted, cancel_admitted}
use Rattle.rules.specs.Admission.{admits, job_number, release_number, cancel_number, round_number}
use Rattle.rules.specs.History.{Call, submit, releases, cancels, asks, round, History, lent, fresh_history, round_of, submitted, step, run}
use Rattle.rules.specs.Layout.{layout_of, layout_at}
use Rattle.rules.specs.Machine.{Core, Verdict, goes_on, finished, differs, failed, is_pending, begun, due, need, holds, second_half, cancel_if, cancel, begin, release}
use Rattle.rules.proofs.laws.PlanLaws.{admitted}
use Rattle.rules.proofs.laws.Reachable.{Reachable}
use Rattle.rules.proofs.laws.Requests.{running_on}
use Rattle.rules.specs.Round.{Half, answer_for, verdict_on, take_all, round_halves}
use Rattle.rules.proofs.laws.StepLaws.{job_taken, done_taken, take_case, untouched, start_case, accept_case}
use Rattle.rules.proofs.laws.Done.{DoneFits, begun_fits, ended_fits, cancelled_fits, failed_fits, finished_fits, differs_fits}

-- a request takes its answer
pub taken_fits : (p : Plan) (a : ℕ) → WellFormed p → (v : Verdict) (t : Bool) {j : Job} {l : List Segment} → is_pending j ≡ true → DoneFits p a j l →
    DoneFits p a (job_taken (layout_of p) a v t j) (done_taken v (due (layout_of p) a j) l)
taken_fits p a w goes_on true h f = f
taken_fits p a w goes_on false h f = failed_fits p a f
taken_fits p a w finished t h f = finished_fits p a w h f
taken_fits p a w differs t h f = differs_fits p a f
taken_fits p a w failed t h f = failed_fits p a f

-- of every area
abbrev pub AllFit : Plan → (ℕ → Job) → (ℕ → List Segment) → Type 0
AllFit p jobs done = (a : ℕ) → DoneFits p a (jobs a) (done a)

-- in a history
abbrev pub Fits : Plan → History → Type 0
Fits p h = AllFit p h.core.jobs h.done

-- area b's job becomes k
job_fits : (p : Plan) (b : ℕ) {jobs : ℕ → Job} {done : ℕ → List Segment} {k : Job} → AllFit p jobs done → DoneFits p b k (done b) →
    AllFit p (upd jobs b k) done
job_fits p b {jobs} {done} {k} f g a =
    same_or (λ a. DoneFits p a (upd jobs b k a) (done a)) b a (rw upd_same g) (λ h. rw upd_other (f a))

module _ (p : Plan) (w : WellFormed p) where
  -- the first half keeps it
  first_half_fits : (answers : List DeviceAnswer) (h : Half) → Reachable (layout_of p) (admits p) h.core → AllFit p h.core.jobs h.done →
      (n : ℕ) → let e = take_all p answers n h in AllFit p e.core.jobs e.done
  unfolding take_all
  first_half_fits answers h r f zero = f
  first_half_fits answers h r f (suc n) = λ a.
      let ih = first_half_fits answers h r f n in
      let before = take_all p answers n h in
      let x = answer_for answers n in
      let same = untouched p answers h r n n (le_refl n) in
      take_case p n x before a (DoneFits p a)
      (λ q e.
      let runs = sym (ap (λ x. x.state) same.device) ∙ e in
      taken_fits p a w (verdict_on p (Runs a q) x before.core.jobs before.memory) (ltb (q + 1) ((layout_of p).limit n))
      (ap is_pending (same.job a q runs) ∙ (running_on r runs).pending) (ih a))
      (ih a)

  -- and so does the second
  second_half_fits : (ages : ℕ → ℕ) (n : ℕ) (c : Core) (done : ℕ → List Segment) → AllFit p c.jobs done → AllFit p (second_half (layout_at p ages) n c).jobs done
  unfolding second_half
  second_half_fits ages zero c done f = f
  second_half_fits ages (suc n) c done f =
      let ih = second_half_fits ages n c done f in
      start_case (λ e. AllFit p e.jobs done) (layout_at p ages) n (second_half (layout_at p ages) n c) ih
      (λ b _ _ k. job_fits p b ih (ended_fits p b 0 (λ _ e. absurd (true≢false (sym k ∙ e))) (ih b)))
      (λ b _. ih)

  -- a job is accepted
  submitted_fits : (b : ℕ) (t : Task) (h : History) → Admitted p b t → Fits p h → Fits p (submitted p b t h)
  unfolding submitted begin
  submitted_fits b t h g f = λ a.
      same_or (λ a. DoneFits p a (upd h.core.jobs b (begun (layout_of p) b t (h.core.jobs b)) a) (upd h.done b [] a)) b a
      (simp upd_same (begun_fits p b t (h.core.jobs b) g))
      (λ k. simp upd_other (f a))

  -- a job is cancelled
  cancel_fits : (b : ℕ) (c : Core) (done : ℕ → List Segment) → is_pending (c.jobs b) ≡ true → AllFit p c.jobs done →
      AllFit p (cancel (layout_of p) b c).jobs done
  unfolding cancel
  cancel_fits b c done h f = go (holds b (c.devices (need (layout_of p) b (c.jobs b))))
    where
      go : (t : Bool) → AllFit p (cancel_if t b c).jobs done
      go true = job_fits p b f (cancelled_fits p b h (f b))
      go false = job_fits p b f (ended_fits p b 3 (λ e. absurd (omega arith)) (f b))

  -- every call keeps it
  pub done_kept : (c : Call) (h : History) → Reachable (layout_of p) (admits p) h.core → Fits p h → Fits p (step p c h)
  unfolding step round_of round_halves release
  done_kept (submit a t) h r f =
      accept_case (Fits p) (job_number p h.core a t)
      (λ e. let known = job_admitted p h.core a t e in submitted_fits a t h (admitted p a t known.0 known.2) f)
      f
  done_kept (releases a address n) h r f = accept_case (Fits p) (release_number p h.core a address n) (λ _. f) f
  done_kept (cancels a) h r f =
      accept_case (Fits p) (cancel_number p h.core a) (λ e. cancel_fits a h.core h.done (cancel_admitted p h.core a e) f) f
  done_kept (asks q) h r f = f
  done_kept (round answers m) h r f =
      accept_case (Fits p) (round_number p m.image m.store)
      (λ _. second_half_fits h.ages p.device_count _ _ (first_half_fits answers (lent m h) r f p.device_count))
      f

  -- at the start
  pub start_fits : Fits p fresh_history
  unfolding fresh_history joined mapped_bytes listed
  start_fits a =
      record { cut = at_start; joined_is = refl; listed_is = refl; admitted = λ e. absurd (omega arith); more = λ e. absurd (false≢true e); complete = λ _ _ _. refl }

  -- every list of calls keeps it
  run_fits : (cs : List Call) (h : History) → ((ds : List Call) → Reachable (layout_of p) (admits p) (run p ds h).core) → Fits p h →
      Fits p (run p cs h)
  unfolding run
  run_fits [] h r f = f
  run_fits (c ∷ cs) h r f = run_fits cs (step p c h) (λ ds. r (c ∷ ds)) (done_kept c h (r []) f)

  -- and so it holds after every list of calls
  pub done_fits : ((cs : List Call) → Reachable (layout_of p) (admits p) (run p cs fresh_history).core) → (cs : List Call) → Fits p (run p cs fresh_history)
  done_fits reached cs = run_fits cs fresh_history reached start_fits
