-- document 02, 05: what question 20 asks of the wear records as plain facts, and the endurance that a plan keeps by them.
use Prim.Native.Nat.{ℕ, zero, suc, ◌+◌, ◌≤◌, ◌<◌}
use Rattle.std.specs.Prelude.{Bool, true, false, not, ◌↔◌, ◌≢◌, List, ◌≡◌, eqb, set}
use Rattle.std.proofs.lemmas.Bool.{false≢true}
use Rattle.std.proofs.Math.Path.{refl, sym}
use Rattle.std.proofs.Common.{◌∙◌, arith}
use Rattle.std.proofs.Math.Numerals.{add-one}
use borrow.Author.Tests.{eq-eqb, ne_eqb, eqb-true}
use Rattle.arith.specs.Bounded.{every, every_elim, every_intro, some_elim, some_intro, below_suc, at_most}
use Rattle.arith.specs.Cases.{by_ltb}
use Rattle.arith.specs.Plain.{plain}
use Rattle.arith.specs.Tables.{table, table_same, table_set}
use Rattle.plan.specs.Questions.{is_named, wear_record_fits}
use Rattle.plan.specs.Records.{endurance_by}
use Rattle.plan.specs.WellFormed.{WearFormed}
use Rattle.plan.specs.declared.records.WearRecord.{WearRecord}

-- a negated test that holds
not_plain : (b : Bool) → (not b ≡ true) ↔ (b ≡ true → ⊥)
not_plain true = (λ e. absurd (false≢true e), λ f. absurd (f refl))
not_plain false = (λ _ e. absurd (false≢true e), λ _. refl)

module _ (w : ℕ → WearRecord) where
  -- no earlier record names the sub-area
  unnamed : (j s : ℕ) → (not (is_named w j s) ≡ true) ↔ ((i : ℕ) → i < j → (w i).sub_area ≢ s)
  unnamed j s = (
    λ e i h q. (not_plain (is_named w j s)).0 e (some_intro (λ i. eqb (w i).sub_area s) j i h (eq-eqb _ _ q)),
    λ h. (not_plain (is_named w j s)).1 (λ e. let (i, l, q) = some_elim (λ i. eqb (w i).sub_area s) j e in h i l (eqb-true _ _ q)),
  )

  -- what question 20 asks of one record
  fits : (subAreas i : ℕ) →
      (wear_record_fits w subAreas i ≡ true)
      ↔ (((w i).sub_area < subAreas) × (1 ≤ (w i).endurance) × ((j : ℕ) → j < i → (w j).sub_area ≢ (w i).sub_area))
  unfolding wear_record_fits
  fits subAreas i = (
    λ e. let facts = simp plain at e in (facts.0, facts.1.0, (unnamed i _).0 facts.1.1),
    λ h. simp plain (h.0, (h.1, (unnamed i _).1 h.2)),
  )

  -- question 20 answered "yes", as the plain facts that it asks for
  pub wear_formed : (subAreas n : ℕ) → (every (wear_record_fits w subAreas) n ≡ true) ↔ WearFormed w subAreas n
  wear_formed subAreas n = (
    λ e.
        let each : (i : ℕ) → i < n → _ = λ i h. (fits subAreas i).0 (every_elim _ n e i h) in
        record {
          known = λ i h. (each i h).0;
          endurance_some = λ i h. (each i h).1;
          once = λ i j h k q.
              by_ltb i j (λ _ l. absurd ((each j k).2 i l q)) λ _ l.
              by_ltb j i (λ _ m. absurd ((each i h).2 j m (sym q))) (λ _ m. omega arith);
        },
    λ f.
        every_intro _ n λ i h.
        (fits subAreas i).1 (f.known i h, f.endurance_some i h, λ j l q. omega (arith, f.once j i (omega arith) h q)),
  )

  -- no more records than sub-areas
  pub wear_most : (subAreas n : ℕ) → WearFormed w subAreas n → n ≤ subAreas
  wear_most subAreas n f = at_most subAreas n (λ i. (w i).sub_area) f.known f.once

  -- the endurance by the records is that of the one that names the sub-area
  pub endurance_named : (n : ℕ) → ((i j : ℕ) → i < n → j < n → (w i).sub_area ≡ (w j).sub_area → i ≡ j) → (i : ℕ) → i < n →
      endurance_by w n (w i).sub_area ≡ (w i).endurance
  unfolding endurance_by
  endurance_named zero once i h = absurd (omega arith)
  endurance_named (suc n) once i h =
      below_suc i n h
      (λ e. rw (e, eq-eqb (w n).sub_area _ refl))
      (λ l.
      rw (ne_eqb (w n).sub_area (w i).sub_area (λ q. omega (arith, once n i (omega arith) h q)))
      (endurance_named n (λ i j h k. once i j (omega arith) (omega arith)) i l))

  -- or none
  pub endurance_none : (n s : ℕ) → ((i : ℕ) → i < n → (w i).sub_area ≢ s) → endurance_by w n s ≡ 0
  unfolding endurance_by
  endurance_none zero s h = refl
  endurance_none (suc n) s h = rw (ne_eqb _ _ (h n (omega arith))) (endurance_none n s (λ i l. h i (omega arith)))

  -- the step of the loop that reads them: record n, which is x, sets one entry, or is passed over
  module _ (n : ℕ) (x : WearRecord) (e : x ≡ w n) (old new : List ℕ) (was : old ≡ table 32 (endurance_by w n) 0 32) where
    pub endurance_set : new ≡ set old x.sub_area x.endurance → new ≡ table 32 (endurance_by w (n + 1)) 0 32
    unfolding endurance_by
    endurance_set f = f ∙ rw (e, was, add-one) (table_set 32 (endurance_by w n) 0 (w n).sub_area (w n).endurance)

    pub endurance_past : 32 ≤ x.sub_area → new ≡ old → new ≡ table 32 (endurance_by w (n + 1)) 0 32
    unfolding endurance_by
    endurance_past h f =
        f ∙ was ∙ rw add-one (table_same 32 _ _ 0 32 (λ i l. sym (rw (ne_eqb (w n).sub_area i (λ q. omega (arith, rw e at h, q, l))))))
