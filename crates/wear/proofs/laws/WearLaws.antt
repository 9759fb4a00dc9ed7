-- The charge is the least number of whole millionths, and fits 64 bits; a sum that sticks is the sum without a limit, or the limit.
use Rattle.std.specs.Prelude.{ℕ, ◌+◌, ◌*◌, ◌/◌, ◌%◌, ◌≤◌, ◌<◌, min, List, ◌≡◌, get_or, set}
use Rattle.std.specs.Int.{div_ceil}
use Rattle.std.proofs.Common.{◌∙◌, div-lt_iff_lt-mul, add-one, arith, ne_eqb, eq-eqb, lt-ltb, le-ltb}
use Rattle.std.proofs.Math.Nat.{div-le_of_le-mul, div-add-mod', lt-mul-div-succ, mul-mod_left, mul_comm}
use Rattle.arith.specs.Cases.{by_eqb}
use Rattle.wear.specs.Wear.{most_wear, worn_to, add_one, add_worn, rounded_up, charge_of, Millionths}
use Rattle.wear.specs.declared.Worn.{Worn}

module _ (n d : ℕ) (some : 1 ≤ d) where
  -- what is rounded up comes to n
  up_enough : n ≤ rounded_up n d * d
  unfolding rounded_up
  up_enough =
      by_eqb (n % d) 0
      (λ q e. rw q (omega (arith, div-add-mod' n d)))
      (λ q e. rw q (omega (arith, lt-mul-div-succ n {b = d} some, mul_comm d (n / d + 1))))

  -- and is the least that does
  up_least : (c : ℕ) → n ≤ c * d → rounded_up n d ≤ c
  unfolding rounded_up
  up_least c h =
      by_eqb (n % d) 0
      (λ q e. rw q (div-le_of_le-mul d (omega (arith, mul_comm c d))))
      (λ q e. rw q (omega (arith, (div-lt_iff_lt-mul {x = n} {y = c} some).1 (less e))))
    where
      less : (n % d ≡ 0 → ⊥) → n < c * d
      less e = by_eqb n (c * d) (λ _ f. absurd (e (rw f (mul-mod_left c d)))) (λ _ f. omega arith)

-- it is what `div_ceil` gives
pub up_is : (n d : ℕ) → div_ceil n d ≡ rounded_up n d
unfolding rounded_up
up_is n d = by_eqb (n % d) 0 (λ q e. rw (q, e) (omega arith)) (λ q e. rw q (omega arith))

-- the charge of a sub-area with a record
pub charge_least : (sum endurance sectorCount : ℕ) → 1 ≤ endurance * sectorCount → Millionths sum (endurance * sectorCount) (charge_of sum endurance sectorCount)
unfolding charge_of
charge_least sum endurance sectorCount h =
    rw (ne_eqb (endurance * sectorCount) 0 (omega arith))
    (record { enough = up_enough (sum * 1000000) _ h; least = up_least (sum * 1000000) _ h })

-- without one
pub charge_none : (sum sectorCount : ℕ) → charge_of sum 0 sectorCount ≡ 0
unfolding charge_of
charge_none sum sectorCount = rw (eq-eqb (0 * sectorCount) 0 (omega arith))

-- the reported sum after an erase, where it was the true one or the limit
pub worn_more : (true sectors : ℕ) → worn_to (min true most_wear) sectors ≡ min (sectors + true) most_wear
unfolding worn_to
worn_more true sectors = omega arith

-- what the code does with what one answer wears: it sets the sum that is meant, or leaves all where none is
module _ (w : Worn) (wear sums new : List ℕ) (was : wear ≡ sums) where
  pub add_set : w.sub_area < 32 → (r : ℕ) → r ≡ worn_to (get_or wear w.sub_area 0) w.sectors → new ≡ set wear w.sub_area r → new ≡ add_one w sums
  add_set l r e f = f ∙ rw (e, was, lt-ltb w.sub_area 32 l)

  pub add_left : 32 ≤ w.sub_area → new ≡ wear → new ≡ add_one w sums
  add_left l f = f ∙ rw (was, le-ltb w.sub_area 32 l)

-- one device more
pub add_more : (worn : List Worn) (n : ℕ) (sums : List ℕ) →
    add_one (get_or worn n (record { sub_area = 0; sectors = 0 })) (add_worn worn n sums) ≡ add_worn worn (n + 1) sums
unfolding add_worn
add_more worn n sums = rw add-one
