-- Of two pending jobs of one priority the one that an earlier call accepted is above, after every list of calls.
use Rattle.std.specs.Prelude.{ℕ, ◌+◌, ◌<◌, Bool, false, ◌≢◌, ◌≡◌, refl, ltb, eqb}
use Rattle.std.proofs.Math.Bool.{true}
use Rattle.std.proofs.lemmas.Bool.{false≢true}
use mathlib.Core.List.{List, [], ◌∷◌}
use Rattle.std.proofs.Common.{sym, ap, ◌∙◌, arith, lt-ltb, le-ltb, eq-eqb}
use Rattle.std.proofs.Math.Path.{subst}
use Rattle.arith.specs.Cases.{by_eqb}
use Rattle.arith.specs.Parts.{upd, upd_same, upd_other, upd_case}
use Rattle.memory.specs.declared.Task.{Task}
use Rattle.plan.specs.declared.records.Plan.{Plan}
use Rattle.state.specs.declared.Job.{Job}
use Rattle.rules.specs.Admission.{admits, job_number, release_number, cancel_number, round_number}
use Rattle.rules.proofs.laws.Admitted.{cancel_admitted}
use Rattle.rules.proofs.laws.FirstCome.{first_come}
use Rattle.rules.specs.History.{Call, submit, releases, cancels, asks, round, History, fresh_history, submitted, step, run}
use Rattle.rules.proofs.laws.Laws.{Laws}
use Rattle.rules.specs.Layout.{priority_of, layout_of, layout_at}
use Rattle.rules.specs.Machine.{is_pending, need, holds, cancel_if, cancel, begin, release}
use Rattle.rules.proofs.laws.RankLaws.{AgesApart, ranks_one}
use Rattle.rules.proofs.laws.Runs.{HistoryFits, history_fits, round_pending}
use Rattle.rules.specs.statements.Moments.{moment_of}
use Rattle.rules.specs.statements.Statements.{is_above, FirstCome, noted, accepted_from, accepted_at}
use Rattle.rules.proofs.laws.StepLaws.{accept_case}

abbrev Pending : History → ℕ → Type 0
Pending h a = is_pending (h.core.jobs a) ≡ true

-- the jobs were accepted by calls below n, and those of one priority are ranked by these
record Order (p : Plan) (n : ℕ) (h : History) (at : ℕ → ℕ) : Type 0 where
  early : (a : ℕ) → Pending h a → at a < n
  ranked : (a b : ℕ) → a ≢ b → Pending h a → Pending h b → priority_of p a ≡ priority_of p b → is_above p h a b ≡ ltb (at a) (at b)

-- the call is no job, or a refused one
abbrev NoneAccepted : Plan → Call → History → Type 0
NoneAccepted p (submit c t) h = eqb (job_number p h.core c t) 0 ≡ false
NoneAccepted p (releases c address l) h = true ≡ true
NoneAccepted p (cancels c) h = true ≡ true
NoneAccepted p (asks q) h = true ≡ true
NoneAccepted p (round answers m) h = true ≡ true

module _ (p : Plan) (L : (ages : ℕ → ℕ) → AgesApart ages → Laws (layout_at p ages) (admits p)) where
  -- a call after which no area is pending that was not before
  stays : (n : ℕ) (h e : History) (at : ℕ → ℕ) → ((a : ℕ) → Pending e a → Pending h a) →
      ((a b : ℕ) → Pending h a → Pending h b → is_above p e a b ≡ is_above p h a b) → Order p n h at → Order p (n + 1) e at
  stays n h e at before kept o =
      record {
        early = λ a k. let l = o.early a (before a k) in omega arith;
        ranked = λ a b d f g same. kept a b (before a f) (before b g) ∙ o.ranked a b d (before a f) (before b g) same;
      }

  -- an accepted job
  module _ (n : ℕ) (h : History) (at : ℕ → ℕ) (c : ℕ) (t : Task) (first : FirstCome p (moment_of p h)) (e : job_number p h.core c t ≡ 0) (o : Order p n h at) where
    abbrev next : History
    next = step p (submit c t) h

    -- another area's job stays
    before : (a : ℕ) → (a ≡ c → ⊥) → Pending next a → Pending h a
    unfolding step submitted begin
    before a d k =
        subst (λ j. is_pending j ≡ true) (upd_other h.core.jobs c a _ (λ q. d (sym q))) (rw (eq-eqb (job_number p h.core c t) 0 e) at k)

    others : (a : ℕ) → (a ≡ c → ⊥) → upd at c n a ≡ at a
    others a d = upd_other at c a n (λ q. d (sym q))

    accepts : Order p (n + 1) next (upd at c n)
    accepts =
        record {
          early = λ a k.
              by_eqb a c
              (λ _ q. rw (q, upd_same at c n) (omega arith))
              (λ _ d. rw (others a d) (let l = o.early a (before a d k) in omega arith));
          ranked = λ a b d f g same.
              by_eqb a c
              (λ _ q.
              let other : b ≡ c → ⊥ = λ z. d (q ∙ sym z) in
              let above = first.accepted_last c t e b other g (sym same ∙ ap (priority_of p) q) in
              let l = o.early b (before b other g) in
              rw (q, upd_same at c n, others b other, le-ltb n (at b) (omega arith)) (ranks_one (priority_of p) next.ages b c above))
              (λ _ u.
              by_eqb b c
              (λ _ q.
              let above = first.accepted_last c t e a u f (same ∙ ap (priority_of p) q) in
              let l = o.early a (before a u f) in
              rw (q, upd_same at c n, others a u, lt-ltb (at a) n (omega arith)) above)
              (λ _ v. rw (others a u, others b v) (first.kept (submit c t) a b (before a u f) (before b v g) ∙ o.ranked a b d (before a u f) (before b v g) same)));
        }

  -- a cancel makes no area pending
  cancel_pending : (c : ℕ) (h : History) → cancel_number p h.core c ≡ 0 → (a : ℕ) → is_pending ((cancel (layout_of p) c h.core).jobs a) ≡ true → Pending h a
  unfolding cancel
  cancel_pending c h e a = go (holds c (h.core.devices (need (layout_of p) c (h.core.jobs c))))
    where
      changed : (j : Job) → is_pending (upd h.core.jobs c j a) ≡ true → Pending h a
      changed j =
          upd_case (λ i. is_pending i ≡ true → Pending h a) h.core.jobs c a j
          (λ q _. subst (Pending h) q (cancel_admitted p h.core c e))
          (λ _ k. k)

      go : (s : Bool) → is_pending ((cancel_if s c h.core).jobs a) ≡ true → Pending h a
      go true = changed _
      go false = changed _

  -- nor does any other call but an accepted job
  call_pending : (k : Call) (h : History) → HistoryFits p h → NoneAccepted p k h → (a : ℕ) → Pending (step p k h) a → Pending h a
  unfolding step release
  call_pending (submit c t) h f e a = λ i. rw e at i
  call_pending (releases c address l) h f e a =
      accept_case (λ (e : History). Pending e a → Pending h a) (release_number p h.core c address l) (λ _ i. i) (λ i. i)
  call_pending (cancels c) h f e a =
      accept_case (λ (e : History). Pending e a → Pending h a) (cancel_number p h.core c) (λ z. cancel_pending c h z a) (λ i. i)
  call_pending (asks q) h f e a = λ i. i
  call_pending (round answers m) h f e a =
      accept_case (λ (e : History). Pending e a → Pending h a) (round_number p m.image m.store) (λ _. round_pending p L answers m h f a) (λ i. i)

  -- every call
  call_order : (n : ℕ) (k : Call) (h : History) (at : ℕ → ℕ) → HistoryFits p h → Order p n h at → Order p (n + 1) (step p k h) (noted p n k h at)
  call_order n k h at f o = go k
    where
      first : FirstCome p (moment_of p h)
      first = first_come p h f.apart

      other : (k : Call) → NoneAccepted p k h → Order p (n + 1) (step p k h) at
      other k e = stays n h (step p k h) at (call_pending k h f e) (first.kept k) o

      go : (k : Call) → Order p (n + 1) (step p k h) (noted p n k h at)
      go (submit c t) = by_eqb (job_number p h.core c t) 0 (λ e z. rw e (accepts n h at c t first z o)) (λ e _. rw e (other (submit c t) e))
      go (releases c address l) = other (releases c address l) refl
      go (cancels c) = other (cancels c) refl
      go (asks q) = other (asks q) refl
      go (round answers m) = other (round answers m) refl

  -- every list of calls
  run_order : (cs : List Call) (n : ℕ) (h : History) (at : ℕ → ℕ) → ((ds : List Call) → HistoryFits p (run p ds h)) → Order p n h at →
      (m : ℕ) × Order p m (run p cs h) (accepted_from p n cs h at)
  unfolding run accepted_from
  run_order [] n h at f o = (n, o)
  run_order (k ∷ ks) n h at f o = run_order ks (n + 1) (step p k h) (noted p n k h at) (λ ds. f (k ∷ ds)) (call_order n k h at (f []) o)

  -- at the start none is pending
  start_order : Order p 0 fresh_history (λ a. 0)
  unfolding fresh_history
  start_order = record { early = λ a k. absurd (false≢true k); ranked = λ a b d k. absurd (false≢true k) }

  pub by_acceptance : (cs : List Call) → let h = run p cs fresh_history in
      (a b : ℕ) → a ≢ b → Pending h a → Pending h b → priority_of p a ≡ priority_of p b → is_above p h a b ≡ ltb (accepted_at p cs a) (accepted_at p cs b)
  by_acceptance cs = (run_order cs 0 fresh_history (λ a. 0) (history_fits p L) start_order).1.ranked
