-- document 01, "A printed session": "one space separates fields"
use Rattle.std.specs.Prelude.{ℕ, Bool, true, false, List, [], ◌∷◌, ◌++◌, leb, eqb, length, drop}
use Rattle.arith.specs.Cases.{pick}

-- fields with a word in front of the first
abbrev pub in_front : List ℕ → List (List ℕ) → List (List ℕ)
in_front w [] = w ∷ []
in_front w (f ∷ fs) = (w ++ f) ∷ fs

-- bytes cut at each byte c. Two of them in a row, one in front or one at the end leave an empty part
unfoldable pub cut_at : ℕ → List ℕ → List (List ℕ)
cut_at c [] = [] ∷ []
cut_at c (b ∷ l) = pick (eqb b c) ([] ∷ cut_at c l) (in_front (b ∷ []) (cut_at c l))

-- the parts from byte i on; none where i is past the end
unfoldable pub cut_from : ℕ → List ℕ → ℕ → List (List ℕ)
cut_from c l i = pick (leb i (length l)) (cut_at c (drop i l)) []

-- a line's fields; a space is 32
abbrev pub fields_of : List ℕ → List (List ℕ)
fields_of l = cut_at 32 l

abbrev pub fields_from : List ℕ → ℕ → List (List ℕ)
fields_from l i = cut_from 32 l i

abbrev pub rest : List (List ℕ) → List (List ℕ)
rest [] = []
rest (f ∷ fs) = fs

abbrev pub is_last : List (List ℕ) → Bool
is_last [] = true
is_last (f ∷ fs) = false
