-- Laws of the digits.
use Rattle.std.specs.Prelude.{ℕ, zero, suc, ◌+◌, ◌-◌, ◌*◌, ◌^◌, ◌≤◌, ◌<◌, ◌≡◌, refl, length}
use Rattle.std.proofs.Common.{sym, ap, ◌∙◌, pow-suc, add-one, arith, le-leb}
use Rattle.std.proofs.Math.Nat.{pow-le-pow_right}
use Rattle.std.proofs.lemmas.Bool.{lt-leb}
use Rattle.arith.specs.Bounded.{sum, sum_bound, sum_more}
use Rattle.arith.specs.Cases.{by_leb}
use Rattle.texts.specs.Texts.{digits_of, reaches, digit_count, decimal}

pub power_more : (i : ℕ) → 10 ^ (i + 1) ≡ 10 ^ i * 10
power_more i = rw (add-one, pow-suc)

-- a power of ten that fits 64 bits has at most 19 zeros
pub power_fits : (i n : ℕ) → 10 ^ i ≤ n → n < 18446744073709551616 → i ≤ 19
power_fits i n h k = by_leb i 19 (λ _ f. f) (λ _ f. absurd (omega (arith, pow-le-pow_right {n = 10} (omega arith) {i = 20} {j = i} (omega arith))))

pub length_digits : (k n : ℕ) → length (digits_of k n) ≡ k
unfolding digits_of
length_digits zero n = refl
length_digits (suc k) n = ap suc (length_digits k n)

pub reaches_few : (p n : ℕ) → reaches p n ≤ 1
reaches_few p n = by_leb p n (λ e _. rw e (omega arith)) (λ e _. rw e (omega arith))

pub count_few : (n : ℕ) → digit_count n ≤ 20
unfolding digit_count
count_few n = omega (arith, sum_bound (λ k. reaches (10 ^ (k + 1)) n) 1 19 (λ i _. reaches_few (10 ^ (i + 1)) n))

pub decimal_count : (n : ℕ) → length (decimal n) ≡ digit_count n
unfolding decimal
decimal_count n = length_digits (digit_count n) n

-- how many of the first k powers a number reaches: one more for a further one that it reaches, and all its digits where it does not
abbrev pub reached : ℕ → ℕ → ℕ
reached n k = sum (λ i. reaches (10 ^ (i + 1)) n) k

pub count_more : (n k : ℕ) → 10 ^ (k + 1) ≤ n → k ≡ reached n k → k + 1 ≡ reached n (k + 1)
count_more n k h e = rw (sum_more (λ i. reaches (10 ^ (i + 1)) n) k, ← e, le-leb _ _ h)

reached_all : (n k d : ℕ) → n < 10 ^ (k + 1) → reached n (k + d) ≡ reached n k
reached_all n k zero h = ap (reached n) (omega arith)
reached_all n k (suc d) h =
    let e : k + suc d ≡ k + d + 1 = omega arith in
    let few : n < 10 ^ (k + d + 1) = omega (arith, pow-le-pow_right {n = 10} (omega arith) {i = k + 1} {j = k + d + 1} (omega arith)) in
    rw (e, sum_more (λ i. reaches (10 ^ (i + 1)) n) (k + d), lt-leb _ _ few, reached_all n k d h) (omega arith)

pub count_all : (n k : ℕ) → n < 10 ^ (k + 1) → k ≤ 19 → k ≡ reached n k → k + 1 ≡ digit_count n
unfolding digit_count
count_all n k h few e =
    let f : k + (19 - k) ≡ 19 = omega arith in
    let g : reached n 19 ≡ reached n k = ap (reached n) (sym f) ∙ reached_all n k (19 - k) h in
    omega (arith, e, g)
