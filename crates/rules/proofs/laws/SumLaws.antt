-- Sums and tests, compared.
use Rattle.std.specs.Prelude.{ℕ, zero, suc, ◌+◌, ◌≤◌, ◌<◌, Bool, true, false, eqb}
use Rattle.std.proofs.Common.{subst, arith}
use Rattle.arith.specs.Bounded.{sum, below_suc}
use Rattle.arith.specs.Cases.{pick, by_eqb}

-- each summand at most the other's
pub sum_less : (f g : ℕ → ℕ) (n : ℕ) → ((i : ℕ) → i < n → f i ≤ g i) → sum f n ≤ sum g n
unfolding sum
sum_less f g zero h = omega arith
sum_less f g (suc n) h = omega (arith, sum_less f g n (λ i l. h i (omega arith)), h n (omega arith))

-- but for summand a, which is by k more at most
pub sum_more_one : (f g : ℕ → ℕ) (a k n : ℕ) → ((i : ℕ) → i < n → f i ≤ g i + pick (eqb i a) k 0) → sum f n ≤ sum g n + k
unfolding sum
sum_more_one f g a k zero h = omega arith
sum_more_one f g a k (suc n) h =
    by_eqb n a
    (λ e q.
    let others : (i : ℕ) → i < n → f i ≤ g i = λ i l. let u = h i (omega arith) in by_eqb i a (λ _ z. absurd (omega arith)) (λ m _. let v = rw m at u in omega arith) in
    omega (arith, sum_less f g n others, rw e at (h n (omega arith))))
    (λ e q. omega (arith, sum_more_one f g a k n (λ i l. h i (omega arith)), rw e at (h n (omega arith))))

-- and summand a less
pub sum_less_one : (f g : ℕ → ℕ) (a n : ℕ) → ((i : ℕ) → i < n → f i ≤ g i) → a < n → f a + 1 ≤ g a → sum f n + 1 ≤ sum g n
unfolding sum
sum_less_one f g a zero h l k = absurd (omega arith)
sum_less_one f g a (suc n) h l k =
    let u = h n (omega arith) in
    below_suc a n l
    (λ e. let v : f n + 1 ≤ g n = subst (λ i. f i + 1 ≤ g i) e k in omega (arith, sum_less f g n (λ i m. h i (omega arith))))
    (λ m. omega (arith, sum_less_one f g a n (λ i j. h i (omega arith)) m k))

-- no more in one case, no more in both
pub pick_less : (t : Bool) (m n : ℕ) → m ≤ n → pick t m 0 ≤ pick t n 0
pick_less true m n h = h
pick_less false m n h = omega arith

-- nothing in both
pub pick_none : {n : ℕ} (t : Bool) → pick t 0 0 ≤ n
pick_none true = omega arith
pick_none false = omega arith

-- or nothing
pub pick_most : (t : Bool) (n : ℕ) → pick t n 0 ≤ n
pick_most true n = omega arith
pick_most false n = omega arith
