-- The reader of fields, byte by byte.
use Rattle.std.specs.Prelude.{ℕ, suc, ltb, ◌+◌, ◌-◌, ◌≤◌, ◌<◌, ◌≡◌, refl, true, false, length, get_or, take, drop}
use Rattle.std.proofs.Common.{◌∙◌, true≢false, add-one, arith, length-drop, take-suc, get_or-drop}
use mathlib.Core.List.{List, [], ◌∷◌, ◌++◌, append_assoc, append-nil}
use Rattle.std.proofs.Math.Nat.{sub_self}
use borrow.Author.Tests.{eq-eqb, ne_eqb, le-leb, lt-leb}
use Rattle.std.proofs.Math.ListN.{drop_of_length-le}
use Rattle.std.proofs.Math.Seq.{drop-cons}
use Rattle.arith.specs.Cases.{by_eqb, by_ltb}
use Rattle.lines.specs.Fields.{in_front, cut_at, cut_from, is_last}

-- the laws of the reader
pub in_front_more : (w : List ℕ) (b : ℕ) (fs : List (List ℕ)) → in_front w (in_front (b ∷ []) fs) ≡ in_front (w ++ (b ∷ [])) fs
in_front_more w b [] = refl
in_front_more w b (f ∷ fs) = simp append_assoc

pub in_front_none : (fs : List (List ℕ)) → is_last fs ≡ false → fs ≡ in_front [] fs
in_front_none [] e = absurd (true≢false e)
in_front_none (f ∷ fs) e = refl

-- there is a part
pub some_field : (c : ℕ) (l : List ℕ) → is_last (cut_at c l) ≡ false
unfolding cut_at
some_field c [] = refl
some_field c (b ∷ l) = by_eqb b c (λ e _. rw e) (λ e _. rw e (front (cut_at c l)))
  where
    front : (fs : List (List ℕ)) → is_last (in_front (b ∷ []) fs) ≡ false
    front [] = refl
    front (f ∷ fs) = refl

-- the bytes from byte `from` to byte i
abbrev pub word : List ℕ → ℕ → ℕ → List ℕ
word l from i = take (i - from) (drop from l)

module _ (c : ℕ) (l : List ℕ) where
  pub fields_all : cut_from c l 0 ≡ cut_at c l
  unfolding cut_from
  fields_all = rw (le-leb 0 (length l) (omega arith))

  pub fields_past : (i : ℕ) → length l < i → cut_from c l i ≡ []
  unfolding cut_from
  fields_past i h = rw (lt-leb _ _ h)

  pub more_fields : (i : ℕ) → i ≤ length l → is_last (cut_from c l i) ≡ false
  unfolding cut_from
  more_fields i h = rw (le-leb _ _ h) (some_field c (drop i l))

  pub word_none : (from : ℕ) → from ≤ length l → cut_from c l from ≡ in_front (word l from from) (cut_from c l from)
  word_none from h = rw sub_self (in_front_none (cut_from c l from) (more_fields from h))

  pub word_more : (from i : ℕ) → from ≤ i → i < length l → word l from (i + 1) ≡ word l from i ++ (get_or l i 0 ∷ [])
  word_more from i h k =
      let e : i + 1 - from ≡ suc (i - from) = omega arith in
      let s : from + (i - from) ≡ i = omega arith in
      let m : i - from < length (drop from l) = simp length-drop (omega arith) in
      rw (e, take-suc (drop from l) (i - from) 0 m, get_or-drop, s)

  -- one byte on
  pub field_more : (from i : ℕ) → from ≤ i → i < length l → (get_or l i 0 ≡ c → ⊥) →
      cut_from c l from ≡ in_front (word l from i) (cut_from c l i) → cut_from c l from ≡ in_front (word l from (i + 1)) (cut_from c l (i + 1))
  unfolding cut_from cut_at
  field_more from i h k n e =
      let here : cut_from c l i ≡ in_front (get_or l i 0 ∷ []) (cut_at c (drop (suc i) l)) =
      rw (le-leb i (length l) (omega arith), drop-cons l i 0 k, ne_eqb _ _ n) in
      let there : cut_from c l (i + 1) ≡ cut_at c (drop (suc i) l) = rw (le-leb (i + 1) (length l) (omega arith), add-one) in
      e ∙ rw (here, there, word_more from i h k) (in_front_more (word l from i) (get_or l i 0) (cut_at c (drop (suc i) l)))

  -- c ends the part
  pub field_space : (from i : ℕ) → i < length l → get_or l i 0 ≡ c →
      cut_from c l from ≡ in_front (word l from i) (cut_from c l i) → cut_from c l from ≡ word l from i ∷ cut_from c l (i + 1)
  unfolding cut_from cut_at
  field_space from i k n e =
      let here : cut_from c l i ≡ [] ∷ cut_at c (drop (suc i) l) = rw (le-leb i (length l) (omega arith), drop-cons l i 0 k, eq-eqb _ _ n) in
      let there : cut_from c l (i + 1) ≡ cut_at c (drop (suc i) l) = rw (le-leb (i + 1) (length l) (omega arith), add-one) in
      e ∙ rw (here, there, append-nil)

  -- and so does the end
  pub field_last : (from i : ℕ) → i ≡ length l →
      cut_from c l from ≡ in_front (word l from i) (cut_from c l i) → cut_from c l from ≡ word l from i ∷ cut_from c l (i + 1)
  unfolding cut_from cut_at
  field_last from i n e =
      let here : cut_from c l i ≡ [] ∷ [] = rw (le-leb i (length l) (omega arith), drop_of_length-le l {i = i} (omega arith)) in
      e ∙ rw (here, fields_past (i + 1) (omega arith), append-nil)

  pub no_fields : (i : ℕ) → length l < i → is_last (cut_from c l i) ≡ true
  no_fields i h = rw (fields_past i h)

  -- is byte i past the end?
  pub past_last : (i : ℕ) → ltb (length l) i ≡ is_last (cut_from c l i)
  past_last i = by_ltb (length l) i (λ e h. rw (e, no_fields i h)) (λ e h. rw (e, more_fields i h))
