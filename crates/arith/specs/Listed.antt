-- Lists of a map's values at numbers that follow each other.
use Rattle.std.specs.Prelude.{ℕ, zero, suc, ◌+◌, ◌≤◌, ◌<◌, ◌≡◌, refl, List, [], ◌∷◌, ◌++◌, length, get_or}
use Rattle.std.proofs.Common.{sym, ap, ◌∙◌, zero-add, suc-add, add-zero, add_assoc, arith, ext_get_or}
use Rattle.arith.specs.Parts.{part, part_at, length_part}

-- f x, f (x + 1), .., n of them
unfoldable pub listed : {A : Type 0} → (ℕ → A) → ℕ → ℕ → List A
listed f x zero = []
listed f x (suc n) = f x ∷ listed f (x + 1) n

-- n of them, and m more behind them
pub listed_append : {A : Type 0} (f : ℕ → A) (x n m : ℕ) → listed f x (n + m) ≡ listed f x n ++ listed f (x + n) m
unfolding listed
listed_append f x zero m = rw (zero-add, add-zero)
listed_append f x (suc n) m =
    let e : x + suc n ≡ x + 1 + n = omega arith in
    rw (suc-add, e) (ap (λ l. f x ∷ l) (listed_append f (x + 1) n m))

-- equal values, equal lists
pub listed_same : {A : Type 0} (f g : ℕ → A) (x y n : ℕ) → ((k : ℕ) → k < n → f (x + k) ≡ g (y + k)) → listed f x n ≡ listed g y n
unfolding listed
listed_same f g x y zero h = refl
listed_same f g x y (suc n) h =
    rw (simp add-zero at (h 0 (omega arith)), listed_same f g (x + 1) (y + 1) n (λ k l. simp add_assoc (h (1 + k) (omega arith))))

-- there are n of them
pub length_listed : {A : Type 0} (f : ℕ → A) (x n : ℕ) → length (listed f x n) ≡ n
unfolding listed
length_listed f x zero = refl
length_listed f x (suc n) = ap suc (length_listed f (x + 1) n)

-- element k of them
pub listed_at : {A : Type 0} (d : A) (f : ℕ → A) (x n k : ℕ) → k < n → get_or (listed f x n) k d ≡ f (x + k)
unfolding listed
listed_at d f x zero k h = absurd (omega arith)
listed_at d f x (suc n) zero h = rw add-zero
listed_at d f x (suc n) (suc k) h = let e : x + 1 + k ≡ x + suc k = omega arith in listed_at d f (x + 1) n k (omega arith) ∙ ap f e

-- the elements of a part are the part
pub part_listed : {A : Type 0} (d : A) (q n : ℕ) (l : List A) → q + n ≤ length l → listed (λ i. get_or l (q + i) d) 0 n ≡ part q n l
part_listed d q n l h =
    let long = length_listed (λ i. get_or l (q + i) d) 0 n in
    ext_get_or d _ _ (long ∙ sym (length_part q n l h)) λ i k.
    let b : i < n = omega (arith, long, k) in
    listed_at d (λ j. get_or l (q + j) d) 0 n i b ∙ ap (λ j. get_or l (q + j) d) (zero-add i) ∙ sym (part_at d q n l i b)
