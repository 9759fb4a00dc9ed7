-- What `put` does, element by element.
use Rattle.std.specs.Prelude.{ℕ, ◌+◌, ◌-◌, ◌≤◌, ◌≡◌, List, ◌++◌, take}
use Rattle.std.proofs.Math.Path.{refl, ap}
use Rattle.std.proofs.Common.{◌∙◌, length-append, length-take, length-drop, length-take-le, get_or-append-add}
use native.Mathlib.Omega.{arith}
use Rattle.std.proofs.Math.ListN.{length, get_or, drop, get_or-append}
use Rattle.std.proofs.Math.Seq.{get_or-take, get_or-drop}
use Rattle.arith.specs.Cases.{by_ltb}
use Rattle.arith.specs.Parts.{put}
use Rattle.plan.specs.WellFormed.{Among}

module _ {A : Type 0} (d : A) where
  -- behind the first n elements of a list, which are s, stands what follows s
  get_d_behind : (s t : List A) (n i : ℕ) → length s ≡ n → n ≤ i → get_or (s ++ t) i d ≡ get_or t (i - n) d
  get_d_behind s t n i e h =
      let q : i ≡ length s + (i - n) = omega arith in
      ap (λ k. get_or (s ++ t) k d) q ∙ get_or-append-add s t (i - n) d

  module _ (p : ℕ) (x l : List A) (fits : p + length x ≤ length l) where
    -- before it stand p elements
    front : length (take p l) ≡ p
    front = length-take-le p l (omega arith)

    -- in its place stands what was put there
    pub put_inside : (i : ℕ) → Among p (length x) i → get_or (put p x l) i d ≡ get_or x (i - p) d
    unfolding put
    put_inside i h =
        get_d_behind (take p l) (x ++ drop (p + length x) l) p i front h.0
        ∙ get_or-append x (drop (p + length x) l) d (i - p) (omega arith)

    -- anywhere else stands what stood there
    pub put_outside : (i : ℕ) → (Among p (length x) i → ⊥) → get_or (put p x l) i d ≡ get_or l i d
    unfolding put
    put_outside i f =
        by_ltb i p (λ _ h. get_or-append (take p l) _ d i (rw front h) ∙ get_or-take p l i d h) λ _ h.
        by_ltb i (p + length x) (λ _ k. absurd (f (h, k))) λ _ k.
        let e : p + length x + (i - p - length x) ≡ i = omega arith in
        get_d_behind (take p l) (x ++ drop (p + length x) l) p i front h
        ∙ get_d_behind x (drop (p + length x) l) (length x) (i - p) refl (omega arith)
        ∙ get_or-drop (p + length x) l (i - p - length x) d
        ∙ ap (λ k. get_or l k d) e

-- to put changes no length
pub length_put : {A : Type 0} (p : ℕ) (x l : List A) → p + length x ≤ length l → length (put p x l) ≡ length l
unfolding put
length_put p x l h = simp (length-append, length-take, length-drop) (omega arith)
