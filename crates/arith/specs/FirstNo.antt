-- Questions asked in order: the first "no" gives its number.
use Rattle.std.specs.Prelude.{ℕ, zero, suc, ◌+◌, ◌-◌, ◌<◌, ◌≤◌, ◌≡◌, refl, Bool, true, false, List, [], ◌∷◌, ◌↔◌, eqb, length, get_or}
use Rattle.std.proofs.lemmas.Bool.{false≢true}
use Rattle.std.proofs.Common.{arith}
use Rattle.arith.specs.Cases.{pick, by_eqb}

-- the number of the first question answered "no", where the first of the list has number n; 0 where none is
unfoldable pub first_no : ℕ → List Bool → ℕ
first_no n [] = 0
first_no n (true ∷ qs) = first_no (n + 1) qs
first_no n (false ∷ qs) = n

-- one question, with a number of its own
unfoldable pub ask : ℕ → Bool → ℕ
ask n q = pick q 0 n

-- the number of the questions asked first or, where they have no "no", that of those asked next
unfoldable pub or_else : ℕ → ℕ → ℕ
or_else n m = pick (eqb n 0) m n

-- no "no": every question was answered "yes"
pub none_elim : (n : ℕ) (qs : List Bool) → 0 < n → first_no n qs ≡ 0 → (i : ℕ) → i < length qs → get_or qs i true ≡ true
unfolding first_no
none_elim n [] h e i l = absurd (omega arith)
none_elim n (true ∷ qs) h e zero l = refl
none_elim n (true ∷ qs) h e (suc i) l = none_elim (n + 1) qs (omega arith) e i (omega arith)
none_elim n (false ∷ qs) h e i l = absurd (omega arith)

-- a question answered "yes" leaves the number to those behind it
pub none_more : (n : ℕ) (q : Bool) (qs : List Bool) → q ≡ true → first_no (n + 1) qs ≡ 0 → first_no n (q ∷ qs) ≡ 0
unfolding first_no
none_more n q qs e f = rw e f

-- number m, not 0: the questions before it were answered "yes", and it "no"
pub first_elim : (n : ℕ) (qs : List Bool) (m : ℕ) → first_no n qs ≡ m → 0 < m →
    (n ≤ m) × ((i : ℕ) → n + i < m → get_or qs i true ≡ true) × (get_or qs (m - n) true ≡ false)
unfolding first_no
first_elim n [] m e h = absurd (omega arith)
first_elim n (true ∷ qs) m e h =
    let r = first_elim (n + 1) qs m e h in
    let s : m - n ≡ suc (m - (n + 1)) = omega (arith, r.0) in
    (omega (arith, r.0), yes r, rw s r.2)
  where
    yes : ((n + 1 ≤ m) × ((i : ℕ) → n + 1 + i < m → get_or qs i true ≡ true) × (get_or qs (m - (n + 1)) true ≡ false)) →
        (i : ℕ) → n + i < m → get_or (true ∷ qs) i true ≡ true
    yes r zero l = refl
    yes r (suc i) l = r.1 i (omega arith)
first_elim n (false ∷ qs) m e h =
    let s : m - n ≡ 0 = omega arith in
    (omega arith, (λ i l. absurd (omega arith)), rw s)

-- no number past the last question's
pub first_range : (n : ℕ) (qs : List Bool) → 0 < n → first_no n qs < n + length qs
unfolding first_no
first_range n [] h = omega arith
first_range n (true ∷ qs) h = omega (arith, first_range (n + 1) qs (omega arith))
first_range n (false ∷ qs) h = omega arith

-- no "no" in all: none in the questions asked first, and none in the others
pub or_else_none : (n m : ℕ) → (or_else n m ≡ 0) ↔ ((n ≡ 0) × (m ≡ 0))
unfolding or_else
or_else_none n m = (λ e. by_eqb n 0 (λ q h. (h, rw q at e)) (λ q h. absurd (h (rw q at e))), λ h. rw h.0 h.1)

-- a "no" of the questions asked first stands
pub or_else_first : (n m : ℕ) → (n ≡ 0 → ⊥) → or_else n m ≡ n
unfolding or_else
or_else_first n m h = by_eqb n 0 (λ q e. absurd (h e)) (λ q _. rw q)

-- one question has no "no" where it was answered "yes"
pub ask_none : (n : ℕ) (q : Bool) → 0 < n → (ask n q ≡ 0) ↔ (q ≡ true)
unfolding ask
ask_none n true h = (λ _. refl, λ _. refl)
ask_none n false h = (λ e. absurd (omega arith), λ e. absurd (false≢true e))
