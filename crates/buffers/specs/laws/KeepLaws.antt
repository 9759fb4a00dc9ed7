-- A part of a list moved to its front, element by element.
use Rattle.std.specs.Prelude.{ℕ, ◌+◌, ◌-◌, ◌≤◌, ◌<◌, min, List, ◌++◌, ◌≡◌, length, get_or, set, take, drop}
use Rattle.std.proofs.Common.{sym, ap, ◌∙◌, arith, add-one, length-take, length-drop, take-append-drop, take-suc, take-suc-set, drop-set-lt, drop-drop, get_or-drop, take-take, take_all, take-add, take_at, drop_at}
use Rattle.arith.specs.Cases.{by_leb}

-- the first i elements of d are those of z from `from` on, the others are as in z: element i follows
pub keep_turn : (d z : List ℕ) (from i : ℕ) → length d ≡ length z → from + i < length z →
    take i d ≡ take i (drop from z) → drop i d ≡ drop i z →
    (take (i + 1) (set d i (get_or d (from + i) 0)) ≡ take (i + 1) (drop from z)) × (drop (i + 1) (set d i (get_or d (from + i) 0)) ≡ drop (i + 1) z)
keep_turn d z from i same h e g =
    let n : from + i ≡ i + from = omega arith in
    let v : get_or d (from + i) 0 ≡ get_or (drop from z) i 0
    = ap (λ k. get_or d k 0) n ∙ sym (get_or-drop i d from 0) ∙ ap (λ l. get_or l from 0) g ∙ get_or-drop i z from 0 ∙ ap (λ k. get_or z k 0) (sym n) ∙ sym (get_or-drop from z i 0) in
    let long : i < length (drop from z) = rw (length-drop from z) (omega arith) in (
      rw (add-one, take-suc-set d i (get_or d (from + i) 0) (omega arith), take-suc (drop from z) i 0 long, e, v),
      drop-set-lt (i + 1) d i (get_or d (from + i) 0) (omega arith) ∙ sym (drop-drop 1 i d) ∙ ap (drop 1) g ∙ drop-drop 1 i z,
    )

-- where i elements were moved
pub kept_is : (d z : List ℕ) (from i : ℕ) → take i d ≡ take i (drop from z) → drop i d ≡ drop i z → d ≡ take i (drop from z) ++ drop i z
kept_is d z from i e g = sym (take-append-drop i d) ∙ (λ k. e k ++ g k)

-- a part of the first elements
drop_front : (z : List ℕ) (from filled : ℕ) → from ≤ filled → filled ≤ length z → drop from (take filled z) ≡ take (filled - from) (drop from z)
drop_front z from filled h k =
    let n : filled ≡ from + (filled - from) = omega arith in
    let long : length (take from z) ≡ from = rw (length-take from z) (omega arith) in
    ap (λ k. drop from (take k z)) n ∙ ap (drop from) (take-add from (filled - from) z) ∙ drop_at (take from z) (take (filled - from) (drop from z)) from long

take_least : (l : List ℕ) (m n : ℕ) → take m (take n l) ≡ take (min m n) l
take_least l m n =
    by_leb m n
    (λ _ h. let e : min m n ≡ m = omega arith in take-take m n l h ∙ ap (λ k. take k l) (sym e))
    (λ _ h. let e : min m n ≡ n = omega arith in take_all m (take n l) (rw (length-take n l) (omega arith)) ∙ ap (λ k. take k l) (sym e))

-- the elements that were moved, of the first ones
pub kept_front : (d z : List ℕ) (from r filled : ℕ) → from ≤ filled → filled ≤ length z → r ≡ min 4097 (filled - from) →
    d ≡ take r (drop from z) ++ drop r z → take r d ≡ take 4097 (drop from (take filled z))
kept_front d z from r filled h k e f =
    let long : length (take r (drop from z)) ≡ r = rw (length-take r (drop from z), length-drop from z) (omega arith) in
    ap (take r) f
    ∙ take_at (take r (drop from z)) (drop r z) r long
    ∙ ap (λ n. take n (drop from z)) e
    ∙ sym (take_least (drop from z) 4097 (filled - from))
    ∙ ap (take 4097) (sym (drop_front z from filled h k))
