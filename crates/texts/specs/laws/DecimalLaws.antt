-- The digits of a number are those of a tenth of it, and its last behind them.
use Rattle.std.specs.Prelude.{ℕ, zero, suc, ◌+◌, ◌/◌, ◌%◌, ◌^◌, ◌≤◌, ◌<◌, ◌≡◌, refl, List, [], ◌∷◌, ◌++◌, length}
use Rattle.std.specs.Fmt
use Rattle.std.proofs.Common.{sym, ap, ◌∙◌, pow-suc, add-one, arith, length-append}
use Rattle.std.proofs.Math.Nat.{div-div-eq-div-mul, mul_comm}
use Rattle.std.proofs.lemmas.Fmt.{decimal_by_steps, decimal_digit, decimal_step}
use Rattle.arith.specs.Bounded.{sum}
use Rattle.texts.specs.Texts.{digit_of, digits_of, decimal}
use Rattle.texts.specs.laws.TextLaws.{power_more, power_fits, reached, count_more, count_all}

-- the last digit, and the digits of a tenth of the number in front of it
digit_tenth : (k n : ℕ) → digit_of n (suc k) ≡ digit_of (n / 10) k
digit_tenth k n = rw (pow-suc 10 k, mul_comm (10 ^ k) 10, div-div-eq-div-mul n 10 (10 ^ k))

digits_tenth : (k n : ℕ) → digits_of (suc k) n ≡ digits_of k (n / 10) ++ ((48 + n % 10) ∷ [])
unfolding digits_of
digits_tenth zero n = ap (λ x. x ∷ []) (omega arith)
digits_tenth (suc k) n = rw (digit_tenth k n, digits_tenth k n)

-- a number reaches each power of ten up to the greatest that it reaches
reaches_all : (n k : ℕ) → (0 < k → 10 ^ k ≤ n) → k ≡ reached n k
unfolding sum
reaches_all n zero h = refl
reaches_all n (suc k) h =
    let most : 10 ^ (k + 1) ≤ n = rw add-one (h (omega arith)) in
    let less : 10 ^ k ≤ n = omega (arith, power_more k) in
    rw add-one at (count_more n k most (reaches_all n k (λ _. less)))

reaches_some : (k n : ℕ) → 0 < n → (0 < k → 10 ^ k ≤ n) → 10 ^ k ≤ n
reaches_some zero n h f = h
reaches_some (suc k) n h f = f (omega arith)

few_digits : (k n : ℕ) → (0 < k → 10 ^ k ≤ n) → n < 2 ^ 64 → k ≤ 19
few_digits zero n f h = omega arith
few_digits (suc k) n f h = power_fits (suc k) n (f (omega arith)) h

-- ds are the k + 1 digits of n
record Digits (n : ℕ) (ds : List ℕ) : Type 0 where
  k : ℕ
  most : 0 < k → 10 ^ k ≤ n
  below : n < 10 ^ (k + 1)
  same : ds ≡ digits_of (k + 1) n

one_digit : (n : ℕ) → n < 10 → Digits n ((48 + n) ∷ [])
unfolding digits_of
one_digit n h = record { k = 0; most = λ p. absurd (omega arith); below = h; same = ap (λ x. x ∷ []) (omega arith) }

more_digits : (n : ℕ) (ds : List ℕ) → 10 ≤ n → Digits (n / 10) ds → Digits n (ds ++ ((48 + n % 10) ∷ []))
more_digits n ds h d =
    let tenth : 10 ^ d.k ≤ n / 10 = reaches_some d.k (n / 10) (omega arith) d.most in
    record {
      k = d.k + 1;
      most = λ _. omega (arith, tenth, power_more d.k);
      below = omega (arith, d.below, power_more (d.k + 1));
      same = ap (λ l. l ++ ((48 + n % 10) ∷ [])) d.same ∙ sym (digits_tenth (d.k + 1) n) ∙ ap (λ j. digits_of j n) (sym (add-one (d.k + 1)));
    }

decimal_same : (n : ℕ) → n < 2 ^ 64 → Fmt.decimal n ≡ decimal n
unfolding decimal
decimal_same n h =
    let d : Digits n (Fmt.decimal n) = decimal_by_steps Digits one_digit more_digits n h in
    d.same ∙ ap (λ j. digits_of j n) (count_all n d.k d.below (few_digits d.k n d.most h) (reaches_all n d.k d.most))

pub decimal_one : (n : ℕ) → n < 10 → decimal n ≡ (48 + n) ∷ []
decimal_one n h = sym (decimal_same n (omega arith)) ∙ decimal_digit n h

pub decimal_more : (n : ℕ) → 10 ≤ n → n < 2 ^ 64 → decimal n ≡ decimal (n / 10) ++ ((48 + n % 10) ∷ [])
decimal_more n h k =
    sym (decimal_same n k)
    ∙ decimal_step n h k
    ∙ ap (λ l. l ++ ((48 + n % 10) ∷ [])) (decimal_same (n / 10) (omega arith))

pub count_one : (n : ℕ) → n < 10 → length (decimal n) ≡ 1
count_one n h = ap length (decimal_one n h)

pub count_more_digits : (n : ℕ) → 10 ≤ n → n < 2 ^ 64 → length (decimal n) ≡ length (decimal (n / 10)) + 1
count_more_digits n h k = ap length (decimal_more n h k) ∙ length-append (decimal (n / 10)) ((48 + n % 10) ∷ [])
