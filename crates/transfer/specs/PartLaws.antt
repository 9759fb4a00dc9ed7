-- The turns of the loops over bytes, and what a lent part is.
use Rattle.std.specs.Prelude.{ℕ, ◌+◌, ◌-◌, ◌≤◌, ◌<◌, min, Bool, true, false, ◌≡◌, refl, List, [], ◌∷◌, ◌++◌, eqb, length, take, drop, get_or, set}
use Rattle.std.proofs.Common.{true≢false, sym, ap, ◌∙◌, append-nil, arith, add-one, zero-add, add-zero, drop_of_length-le, take-suc, take-suc-set, drop-set-lt, drop-drop, get_or-drop, ext_get_or, eq-eqb, eqb-true}
use Rattle.std.proofs.Math.Nat.{add-sub_cancel_left}
use Rattle.std.specs.Int.Bits.{bit_and}
use Rattle.std.specs.Bool.{Decides}
use Rattle.std.specs.Cmp.Lexicographic.{pointwise}
use Rattle.std.proofs.lemmas.Bool.Decides.{Decides-eqb}
use Rattle.std.proofs.lemmas.Slice.Eq.{slice_eq-Decides}
use Rattle.arith.specs.Cases.{by_bool}
use Rattle.arith.specs.Bounded.{every, every_elim, every_intro, every_same}
use Rattle.arith.specs.Listed.{listed, listed_append, listed_same}
use Rattle.arith.specs.Parts.{part, put, part_at, length_part}

pub copy_turn : (d s : List ℕ) (i : ℕ) → i < length d → i < length s → take i d ≡ take i s → take (i + 1) (set d i (get_or s i 0)) ≡ take (i + 1) s
copy_turn d s i h k e = rw (add-one, take-suc-set d i (get_or s i 0) h, take-suc s i 0 k, e)

-- slices of one length that `==` compares
pub same_bytes : (xs ys : List ℕ) (r : Bool) → length xs ≡ length ys → r ≡ pointwise eqb xs ys → r ≡ every (λ i. eqb (get_or xs i 0) (get_or ys i 0)) (length xs)
same_bytes xs ys r long e =
    by_decision r (slice_eq-Decides Decides-eqb xs ys r e)
  where
    all : xs ≡ ys → every (λ i. eqb (get_or xs i 0) (get_or ys i 0)) (length xs) ≡ true
    all q = every_intro _ (length xs) (λ i l. eq-eqb _ _ (ap (λ l. get_or l i 0) q))

    by_decision : (b : Bool) → Decides b (xs ≡ ys) → b ≡ every (λ i. eqb (get_or xs i 0) (get_or ys i 0)) (length xs)
    by_decision true q = sym (all (q.0 refl))
    by_decision false q =
        by_bool (every (λ i. eqb (get_or xs i 0) (get_or ys i 0)) (length xs))
        (λ t. absurd (true≢false (sym (q.1 (ext_get_or 0 xs ys long (λ i l. eqb-true _ _ (every_elim _ (length xs) t i l)))))))
        (λ f. sym f)

-- one value more of a map
listed_more : (f : ℕ → ℕ) (i : ℕ) → listed f 0 (i + 1) ≡ listed f 0 i ++ (f i ∷ [])
unfolding listed
listed_more f i = listed_append f 0 i 1 ∙ ap (λ k. listed f 0 i ++ (f k ∷ [])) (zero-add i)

-- The first i bytes of d are those of a map f, the others as in z: byte i becomes f i.
pub map_turn : (f : ℕ → ℕ) (d z : List ℕ) (i : ℕ) → i < length d → take i d ≡ listed f 0 i → drop i d ≡ drop i z →
    (take (i + 1) (set d i (f i)) ≡ listed f 0 (i + 1)) × (drop (i + 1) (set d i (f i)) ≡ drop (i + 1) z)
map_turn f d z i h e g = (
  rw (listed_more f i, add-one, take-suc-set d i (f i) h, e),
  drop-set-lt (i + 1) d i (f i) (omega arith) ∙ sym (drop-drop 1 i d) ∙ ap (drop 1) g ∙ drop-drop 1 i z,
)

-- byte i is still that of z
pub still_at : (d z : List ℕ) (i : ℕ) → drop i d ≡ drop i z → get_or d i 0 ≡ get_or z i 0
still_at d z i g =
    ap (λ k. get_or d k 0) (sym (add-zero i)) ∙ sym (get_or-drop i d 0 0) ∙ ap (λ l. get_or l 0 0) g ∙ get_or-drop i z 0 0 ∙ ap (λ k. get_or z k 0) (add-zero i)

-- what a lent part is, and what the whole is once the part is back: `&s[q..q + n]`
pub part_is : (q n : ℕ) (l : List ℕ) → take (q + n - q) (drop q l) ≡ part q n l
unfolding part
part_is q n l = rw add-sub_cancel_left

pub put_is : (p n : ℕ) (x l : List ℕ) → length x ≡ n → take p l ++ (x ++ drop (p + n - p) (drop p l)) ≡ put p x l
unfolding put
put_is p n x l e = rw (add-sub_cancel_left, drop-drop, ← e)

-- d with the bytes of s and-ed into it, as far as both go
unfoldable pub anded : List ℕ → List ℕ → List ℕ
anded d s =
    let n = min (length d) (length s) in
    listed (λ i. bit_and (get_or d i 0) (get_or s i 0)) 0 n ++ drop n d

-- the same for a lent part and a list as long, told of the whole
pub anded_part : (image w : List ℕ) (p : ℕ) → p + length w ≤ length image →
    anded (part p (length w) image) w ≡ listed (λ i. bit_and (get_or image (p + i) 0) (get_or w i 0)) 0 (length w)
unfolding anded
anded_part image w p h =
    let n = length w in
    let all : min (length (part p n image)) n ≡ n = omega (arith, length_part p n image h) in
    let none : drop n (part p n image) ≡ [] = drop_of_length-le (part p n image) {i = n} (omega (arith, length_part p n image h)) in
    rw (all, none, append-nil)
    (listed_same _ _ 0 0 n (λ i l. rw zero-add (λ j. bit_and (part_at 0 p n image i l j) (get_or w i 0))))

-- a statement about each byte of a lent part, told of the whole
module _ (image : List ℕ) (p n : ℕ) (h : p + n ≤ length image) where
  pub length_lent : length (take (p + n - p) (drop p image)) ≡ n
  length_lent = rw (part_is p n image) (length_part p n image h)

  pub same_parts : (w : List ℕ) →
      every (λ i. eqb (get_or (take (p + n - p) (drop p image)) i 0) (get_or w i 0)) (length (take (p + n - p) (drop p image)))
      ≡ every (λ i. eqb (get_or image (p + i) 0) (get_or w i 0)) n
  same_parts w = rw length_lent (every_same _ _ n (λ i l. rw (part_is p n image, part_at 0 p n image i l)))

  pub blank_parts :
      every (λ i. eqb (get_or (take (p + n - p) (drop p image)) i 0) 255) (length (take (p + n - p) (drop p image)))
      ≡ every (λ i. eqb (get_or image (p + i) 0) 255) n
  blank_parts = rw length_lent (every_same _ _ n (λ i l. rw (part_is p n image, part_at 0 p n image i l)))

-- what is made of each byte of a window's part, told of the store
module _ (store w : List ℕ) (q n : ℕ) (is : w ≡ part q n store) (long : length w ≡ n) where
  pub listed_window : (f : ℕ → ℕ → ℕ) → listed (λ i. f i (get_or w i 0)) 0 (length w) ≡ listed (λ i. f i (get_or store (q + i) 0)) 0 n
  listed_window f = rw (long, is) (listed_same _ _ 0 0 n (λ i l. rw zero-add (ap (f i) (part_at 0 q n store i l))))

  pub every_window : (f : ℕ → ℕ → Bool) → every (λ i. f i (get_or w i 0)) (length w) ≡ every (λ i. f i (get_or store (q + i) 0)) n
  every_window f = rw (long, is) (every_same _ _ n (λ i l. ap (f i) (part_at 0 q n store i l)))
