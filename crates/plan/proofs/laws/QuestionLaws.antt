-- Parts of the questions answered "yes", as the plain facts that they ask for.
use Rattle.std.specs.Prelude.{ℕ, zero, suc, ◌+◌, ◌<◌, max, ◌≡◌, true, false, List, ◌↔◌}
use Rattle.std.proofs.Common.{sym, ◌∙◌, true≢false, arith, add-one}
use Rattle.arith.specs.Bounded.{every_pair, pair_elim, pair_intro}
use Rattle.arith.specs.Cases.{by_ltb, by_leb, by_eqb}
use Rattle.arith.specs.Plain.{plain}
use Rattle.plan.specs.Questions.{device_of, apart, device_end, device_due, granularity_fits}
use Rattle.plan.specs.WellFormed.{Among, Granular}
use Rattle.plan.specs.declared.records.DeviceRecord.{DeviceRecord}
use Rattle.plan.specs.declared.records.Granularity.{Granularity}

-- question 3: the first device at 0 and each next where the last ended are each where it is due
pub start_due : (l : List DeviceRecord) (n : ℕ) → (device_of l 0).start ≡ 0 →
    ((i : ℕ) → i + 1 < n → (device_of l (i + 1)).start ≡ device_end (device_of l i)) →
    (i : ℕ) → i < n → (device_of l i).start ≡ device_due l i
unfolding device_due
start_due l n first next zero h = first
start_due l n first next (suc i) h = rw add-one at (next i (omega arith))

module _ (s n t m : ℕ) where
  -- the two answers to `apart`: no byte is in both ranges, or the larger of the two starts is
  by_apart : {P : Type 0} → (apart s n t m ≡ true → ((x : ℕ) → Among s n x → Among t m x → ⊥) → P) →
      (apart s n t m ≡ false → (x : ℕ) → Among s n x → Among t m x → P) → P
  unfolding apart
  by_apart f g =
      by_leb (s + n) t (λ e h. f (rw e) (λ x a b. omega arith)) λ e1 h1.
      by_leb (t + m) s (λ e h. f (simp (e1, e)) (λ x a b. omega arith)) λ e2 h2.
      by_eqb n 0 (λ e h. f (simp (e1, e2, e)) (λ x a b. omega arith)) λ e3 h3.
      by_eqb m 0 (λ e h. f (simp (e1, e2, e3, e)) (λ x a b. omega arith)) λ e4 h4.
      g (simp (e1, e2, e3, e4)) (max s t) (omega arith) (omega arith)

  -- ranges that are apart share no byte
  apart_elim : apart s n t m ≡ true → (x : ℕ) → Among s n x → Among t m x → ⊥
  apart_elim e = by_apart (λ _ h. h) (λ f. absurd (true≢false (sym e ∙ f)))

  -- ranges that share no byte are apart
  apart_intro : ((x : ℕ) → Among s n x → Among t m x → ⊥) → apart s n t m ≡ true
  apart_intro h = by_apart (λ e _. e) (λ _ x a b. absurd (h x a b))

-- questions 4 and 8: of n ranges, no two share a byte
pub all_apart : (start length : ℕ → ℕ) (n : ℕ) →
    (every_pair (λ i j. apart (start i) (length i) (start j) (length j)) n ≡ true)
    ↔ ((i j : ℕ) → i < n → j < n → (i ≡ j → ⊥) → (x : ℕ) → Among (start i) (length i) x → Among (start j) (length j) x → ⊥)
all_apart start length n = (
  λ e i j h k d x a b. by_ltb i j (λ _ l. lower e i j l k x a b) (λ _ l. lower e j i (omega arith) h x b a),
  λ h. pair_intro _ n (λ i j l k. apart_intro _ _ _ _ (h i j (omega arith) k (omega arith))),
)
  where
    lower : every_pair (λ i j. apart (start i) (length i) (start j) (length j)) n ≡ true → (i j : ℕ) → i < j → j < n → (x : ℕ) →
        Among (start i) (length i) x → Among (start j) (length j) x → ⊥
    lower e i j l k = apart_elim _ _ _ _ (pair_elim _ n e i j l k)

-- question 5: a unit and its burst
pub granular : (g : Granularity) → (granularity_fits g ≡ true) ↔ Granular g
unfolding granularity_fits
granular g = (
  λ e. let facts = simp plain at e in record { unit_some = facts.0; burst_some = facts.1.0; burst_of_unit = facts.1.1 },
  λ h. simp plain (h.unit_some, (h.burst_some, h.burst_of_unit)),
)
