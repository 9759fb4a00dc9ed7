-- Statements and sums over the numbers below n.
use Prim.Native.Nat.{ℕ, zero, suc, ◌+◌, ◌-◌, ◌*◌, ◌≤◌, ◌<◌}
use Rattle.std.specs.Prelude.{◌≡◌, Bool, true, false, ◌&&◌, ◌||◌, eqb}
use Rattle.std.proofs.Math.Path.{refl}
use Rattle.std.proofs.Common.{sym, ◌∙◌, true≢false, eq-or-lt_of_le, le_of_suc-le-suc, le_refl}
use Rattle.std.proofs.lemmas.Bool.{false≢true}
use Rattle.std.proofs.Math.Logic.{⊎_elim}
use native.Mathlib.Omega.{arith}
use Rattle.std.proofs.Math.Nat.{suc-mul}
use Rattle.std.proofs.Math.Numerals.{add-one}
use Rattle.arith.specs.Cases.{pick, by_bool, by_eqb, and_elim, and_intro}

-- p holds of every number below n
unfoldable pub every : (ℕ → Bool) → ℕ → Bool
every p zero = true
every p (suc n) = every p n && p n

-- p holds of some number below n
unfoldable pub some : (ℕ → Bool) → ℕ → Bool
some p zero = false
some p (suc n) = some p n || p n

-- p i j holds of all i < j < n
abbrev pub every_pair : (ℕ → ℕ → Bool) → ℕ → Bool
every_pair p n = every (λ j. every (λ i. p i j) j) n

-- f 0 + f 1 + .. + f (n - 1)
unfoldable pub sum : (ℕ → ℕ) → ℕ → ℕ
sum f zero = 0
sum f (suc n) = sum f n + f n

-- a number below n + 1 is below n or is n
pub below_suc : {P : Type 0} (i n : ℕ) → i < suc n → (i ≡ n → P) → (i < n → P) → P
below_suc i n h f g = ⊎_elim f g (eq-or-lt_of_le (le_of_suc-le-suc h))

module _ (p : ℕ → Bool) where
  pub every_elim : (n : ℕ) → every p n ≡ true → (i : ℕ) → i < n → p i ≡ true
  unfolding every
  every_elim zero e i h = absurd (omega arith)
  every_elim (suc n) e i h =
      let both = and_elim (every p n) (p n) e in
      below_suc i n h (λ q. rw q both.1) (λ l. every_elim n both.0 i l)

  pub every_intro : (n : ℕ) → ((i : ℕ) → i < n → p i ≡ true) → every p n ≡ true
  unfolding every
  every_intro zero h = refl
  every_intro (suc n) h = and_intro (every_intro n (λ i l. h i (omega arith))) (h n (omega arith))

  -- the step of a loop that has found no exception below i
  pub every_more : (i : ℕ) → every p i ≡ true → p i ≡ true → every p (i + 1) ≡ true
  unfolding every
  every_more i e h = rw add-one (and_intro e h)

  -- one exception
  pub every_fails : (n i : ℕ) → i < n → p i ≡ false → every p n ≡ false
  every_fails n i h e = by_bool (every p n) (λ t. absurd (true≢false (sym (every_elim n t i h) ∙ e))) (λ f. f)

  -- another statement that says the same below n
  pub every_same : (q : ℕ → Bool) (n : ℕ) → ((i : ℕ) → i < n → p i ≡ q i) → every p n ≡ every q n
  unfolding every
  every_same q zero h = refl
  every_same q (suc n) h = rw (every_same q n (λ i l. h i (omega arith)), h n (omega arith))

  pub some_elim : (n : ℕ) → some p n ≡ true → (i : ℕ) × (i < n) × (p i ≡ true)
  unfolding some
  some_elim zero e = absurd (false≢true e)
  some_elim (suc n) e =
      by_bool (some p n)
      (λ t. let w = some_elim n t in (w.0, omega (arith, w.1), w.2))
      (λ f. (n, omega arith, rw f at e))

  pub some_intro : (n i : ℕ) → i < n → p i ≡ true → some p n ≡ true
  unfolding some
  some_intro zero i h e = absurd (omega arith)
  some_intro (suc n) i h e =
      below_suc i n h
      (λ q. by_bool (some p n) (λ t. rw t) (λ f. rw (f, ← q) e))
      (λ l. rw (some_intro n i l e))

  -- another statement that says the same below n
  pub some_same : (q : ℕ → Bool) (n : ℕ) → ((i : ℕ) → i < n → p i ≡ q i) → some p n ≡ some q n
  unfolding some
  some_same q zero h = refl
  some_same q (suc n) h = rw (some_same q n (λ i l. h i (omega arith)), h n (omega arith))

  -- the step of a loop that has found none below i
  pub some_none : (i : ℕ) → some p i ≡ false → p i ≡ false → some p (i + 1) ≡ false
  unfolding some
  some_none i e h = rw (add-one, e, h)

module _ (p : ℕ → ℕ → Bool) where
  pub pair_elim : (n : ℕ) → every_pair p n ≡ true → (i j : ℕ) → i < j → j < n → p i j ≡ true
  pair_elim n e i j h l = every_elim (λ k. p k j) j (every_elim (λ k. every (λ i'. p i' k) k) n e j l) i h

  pub pair_intro : (n : ℕ) → ((i j : ℕ) → i < j → j < n → p i j ≡ true) → every_pair p n ≡ true
  pair_intro n h = every_intro (λ k. every (λ i. p i k) k) n (λ j l. every_intro (λ i. p i j) j (λ i k. h i j k l))

module _ (f : ℕ → ℕ) where
  pub sum_more : (i : ℕ) → sum f (i + 1) ≡ sum f i + f i
  unfolding sum
  sum_more i = rw add-one

  pub sum_mono : (i n : ℕ) → i ≤ n → sum f i ≤ sum f n
  unfolding sum
  sum_mono i zero h = let e : i ≡ 0 = omega arith in rw e (omega arith)
  sum_mono i (suc n) h =
      ⊎_elim (λ e. rw e (omega arith)) (λ l. let ih : sum f i ≤ sum f n = sum_mono i n (le_of_suc-le-suc l) in omega arith) (eq-or-lt_of_le h)

  -- each summand at most b
  pub sum_bound : (b n : ℕ) → ((i : ℕ) → i < n → f i ≤ b) → sum f n ≤ n * b
  unfolding sum
  sum_bound b zero h = omega arith
  sum_bound b (suc n) h =
      let ih : sum f n ≤ n * b = sum_bound b n (λ i l. h i (omega arith)) in
      let m : suc n * b ≡ n * b + b = suc-mul n b in
      omega (arith, h n (omega arith))

  -- each value at most the next: each at most every later one
  pub rises : (n : ℕ) → ((i : ℕ) → i < n - 1 → f i ≤ f (i + 1)) → (i j : ℕ) → i ≤ j → j < n → f i ≤ f j
  rises n h i zero l k = let e : i ≡ 0 = omega arith in rw e (le_refl _)
  rises n h i (suc j) l k =
      below_suc i (suc j) (omega arith)
      (λ e. rw e (le_refl _))
      (λ g. omega (arith, rises n h i j (omega arith) (omega arith), rw add-one at (h j (omega arith))))

-- m numbers below n, no two of them alike, are at most n
pub at_most : (n m : ℕ) (f : ℕ → ℕ) → ((i : ℕ) → i < m → f i < n) → ((i j : ℕ) → i < m → j < m → f i ≡ f j → i ≡ j) → m ≤ n
at_most zero zero f below once = omega arith
at_most zero (suc m) f below once = absurd (omega (arith, below 0 (omega arith)))
at_most (suc n) zero f below once = omega arith
at_most (suc n) (suc m) f below once = omega (arith, at_most n m rest rest_below rest_once)
  where
    -- all but the last; where one is n, the last stands for it
    rest : ℕ → ℕ
    rest i = pick (eqb (f i) n) (f m) (f i)

    not_last : (i : ℕ) → i < m → f i ≡ f m → ⊥
    not_last i h e = omega (arith, once i m (omega arith) (omega arith) e)

    rest_below : (i : ℕ) → i < m → rest i < n
    rest_below i h =
        by_eqb (f i) n
        (λ t e.
        let other : f m ≡ n → ⊥ = λ d. not_last i h (e ∙ sym d) in
        rw t (omega (arith, other, below m (omega arith))))
        (λ t e. rw t (omega (arith, e, below i (omega arith))))

    rest_once : (i j : ℕ) → i < m → j < m → rest i ≡ rest j → i ≡ j
    rest_once i j h k =
        by_eqb (f i) n
        (λ t e. by_eqb (f j) n (λ _ d _. once i j (omega arith) (omega arith) (e ∙ sym d)) (λ u _. rw (t, u) (λ q. absurd (not_last j k (sym q)))))
        (λ t _. by_eqb (f j) n (λ u _. rw (t, u) (λ q. absurd (not_last i h q))) (λ u _. rw (t, u) (once i j (omega arith) (omega arith))))
