-- A form written byte by byte: byte i is the next one, and number k.
use Prim.Native.Nat.{ℕ, suc, ◌+◌, ◌≤◌, ◌<◌}
use Rattle.std.specs.Prelude.{List, [], ◌∷◌, ◌++◌, ◌≡◌, length, drop, get_or}
use Rattle.std.proofs.Math.Numerals.{add-one}
use native.Mathlib.Omega.{arith}
use borrow.Author.Tests.{eq-eqb, ne_eqb}
use Rattle.std.proofs.Common.{drop_of_length-le}
use Rattle.std.proofs.Math.Seq.{drop-cons, get_or-drop, drop-drop}
use Rattle.texts.specs.Texts.{decimal}
use Rattle.rows.specs.Forms.{filled}

abbrev pub left : List ℕ → List ℕ → ℕ → ℕ → List ℕ
left form numbers i k = filled (drop i form) (drop k numbers)

module _ (form numbers : List ℕ) (i k : ℕ) (h : i < length form) where
  pub number_next : get_or form i 0 ≡ 35 → left form numbers i k ≡ decimal (get_or numbers k 0) ++ left form numbers (i + 1) (k + 1)
  unfolding filled
  number_next e =
      let at : k + 0 ≡ k = omega arith in
      let next : i + 1 ≡ suc i = add-one i in
      rw (next, drop-cons form i 0 h, eq-eqb _ _ e, get_or-drop k numbers 0 0, at, drop-drop 1 k numbers)

  pub byte_next : (get_or form i 0 ≡ 35 → ⊥) → left form numbers i k ≡ (get_or form i 0 ∷ []) ++ left form numbers (i + 1) k
  unfolding filled
  byte_next e = let next : i + 1 ≡ suc i = add-one i in rw (next, drop-cons form i 0 h, ne_eqb _ _ e)

pub none_left : (form numbers : List ℕ) (i k : ℕ) → length form ≤ i → left form numbers i k ≡ []
unfolding filled
none_left form numbers i k h = rw (drop_of_length-le form h)
