-- Areas of one priority are ranked by acceptance.
use Rattle.std.specs.Prelude.{ℕ, true, ◌≡◌}
use Rattle.std.proofs.Common.{true≢false, sym, ap, ◌∙◌, eq-eqb}
use Rattle.std.proofs.Math.Path.{refl}
use native.Mathlib.Omega.{arith}
use Rattle.arith.specs.Cases.{by_bool}
use Rattle.memory.specs.declared.Task.{Task}
use Rattle.plan.specs.declared.records.Plan.{Plan}
use Rattle.rules.specs.Admission.{job_number, release_number, cancel_number, round_number}
use Rattle.rules.proofs.laws.Admitted.{job_admitted}
use Rattle.rules.specs.History.{Call, submit, releases, cancels, asks, round, History, submitted, round_of, step}
use Rattle.rules.specs.Layout.{priority_of}
use Rattle.rules.specs.Machine.{is_pending}
use Rattle.rules.proofs.laws.RankLaws.{AgesApart, ranks_plain, ranks_differ, ranks_one, ranks_kept, last_below}
use Rattle.rules.specs.statements.Moments.{moment_of}
use Rattle.rules.specs.statements.Statements.{is_above, FirstCome}
use Rattle.rules.proofs.laws.StepLaws.{accept_case}

module _ (p : Plan) (h : History) (apart : AgesApart h.ages) where
  -- the rank of two areas stays
  abbrev Same : ℕ → ℕ → History → Type 0
  Same a b e = is_above p e a b ≡ is_above p h a b

  -- an accepted job is of an idle area, so of none of two that are pending
  other : (c : ℕ) (t : Task) → job_number p h.core c t ≡ 0 → (a : ℕ) → is_pending (h.core.jobs a) ≡ true → a ≡ c → ⊥
  other c t e a k q = true≢false (sym k ∙ ap (λ n. is_pending (h.core.jobs n)) q ∙ (job_admitted p h.core c t e).1)

  call_keeps : (k : Call) (a b : ℕ) → is_pending (h.core.jobs a) ≡ true → is_pending (h.core.jobs b) ≡ true → Same a b (step p k h)
  unfolding step submitted round_of
  call_keeps (submit c t) a b f g =
      accept_case (Same a b) (job_number p h.core c t)
      (λ e. ranks_kept c h.ages apart (priority_of p) a b (other c t e a f) (other c t e b g))
      refl
  call_keeps (releases c address n) a b f g = accept_case (Same a b) (release_number p h.core c address n) (λ _. refl) refl
  call_keeps (cancels c) a b f g = accept_case (Same a b) (cancel_number p h.core c) (λ _. refl) refl
  call_keeps (asks q) a b f g = refl
  call_keeps (round answers m) a b f g = accept_case (Same a b) (round_number p m.image m.store) (λ _. refl) refl

  pub first_come : FirstCome p (moment_of p h)
  unfolding step submitted
  first_come =
      record {
        larger_above = λ a b l. (ranks_plain (priority_of p) h.ages a b).1 (omega arith, λ q. absurd (omega arith));
        one_above = λ a b d.
            by_bool (is_above p h b a)
            (λ e. rw e (ranks_one (priority_of p) h.ages b a e))
            (λ e. rw e (ranks_differ (priority_of p) h.ages apart b a (λ q. d (sym q)) e));
        accepted_last = λ a t e b d _ same. rw (eq-eqb (job_number p h.core a t) 0 e) (last_below a h.ages apart (priority_of p) b d same);
        kept = call_keeps;
      }
