-- The reader of a number, digit by digit.
use Rattle.std.specs.Prelude.{ℕ, zero, suc, ◌+◌, ◌-◌, ◌*◌, ◌≤◌, ◌<◌, ◌≡◌, true, false, Some, None, List, ltb, length, get_or}
use Rattle.std.proofs.Common.{eq-or-lt_of_le, le_of_suc-le-suc, add-one, arith, ⊎_elim}
use borrow.Author.Tests.{lt-ltb, le-ltb, le-leb, lt-leb}
use Rattle.arith.specs.Bounded.{every, every_fails}
use Rattle.arith.specs.Cases.{by_bool}
use Rattle.lines.specs.Number.{digit_at, value_of, number_of}

-- one digit more
pub value_more : (l : List ℕ) (i : ℕ) → value_of l (i + 1) ≡ 10 * value_of l i + (get_or l i 0 - 48)
unfolding value_of
value_more l i = rw add-one

-- more digits, no smaller number
pub value_grows : (l : List ℕ) (i n : ℕ) → i ≤ n → value_of l i ≤ value_of l n
unfolding value_of
value_grows l i zero h = let e : i ≡ 0 = omega arith in rw e (omega arith)
value_grows l i (suc n) h =
    ⊎_elim (λ e. rw e (omega arith)) (λ g. let ih : value_of l i ≤ value_of l n = value_grows l i n (le_of_suc-le-suc g) in omega arith) (eq-or-lt_of_le h)

-- the cases of the reader
module _ (l : List ℕ) where
  pub number_empty : length l ≤ 0 → number_of l ≡ None
  unfolding number_of
  number_empty h = rw (le-ltb _ _ h)

  pub number_no_digit : (i : ℕ) → i < length l → digit_at l i ≡ false → number_of l ≡ None
  unfolding number_of
  number_no_digit i h e = simp (lt-ltb 0 (length l) (omega arith), every_fails (digit_at l) (length l) i h e)

  pub number_over : (i : ℕ) → i ≤ length l → 4294967295 < value_of l i → number_of l ≡ None
  unfolding number_of
  number_over i h e =
      let g : 4294967295 < value_of l (length l) = omega (arith, value_grows l i (length l) h) in
      by_bool (ltb 0 (length l))
      (λ t. by_bool (every (digit_at l) (length l)) (λ u. simp (t, u, lt-leb _ _ g)) (λ u. simp (t, u)))
      (λ t. rw t)

  pub number_is : (n : ℕ) → n ≡ length l → 0 < n → every (digit_at l) n ≡ true → value_of l n ≤ 4294967295 → number_of l ≡ Some (value_of l n)
  unfolding number_of
  number_is n e h d v = rw (← e, lt-ltb _ _ h, d, le-leb _ _ v)
