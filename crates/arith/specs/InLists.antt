-- Statements and sums over the first n of a list, as a chain over its items finds them, and over the numbers below n.
use Rattle.std.specs.Prelude.{ℕ, zero, suc, ◌+◌, ◌-◌, ◌≤◌, ◌<◌, ◌≡◌, refl, Bool, true, false, Option, Some, List, length, get_or, take, leb}
use Rattle.std.specs.List.{list_all, list_any, sum_by, range_with_len, enumerate_from, FoldsTo, IsAllAdjacentAnswer}
use Rattle.std.specs.Ordering.{partial_le, nat_cmp}
use borrow.Author.Tests.{le-leb, lt-leb}
use Rattle.std.specs.Fn.{Called}
use Rattle.std.specs.Iterator.{YieldsThen}
use Rattle.std.specs.Option.{MatchOption}
use Rattle.std.specs.Slice.Iter.{iter_rest}
use denote.Param.Members.{Mut}
use denote.Ref.{Bor}
use Rattle.std.proofs.iter.Yields.{fronts, nat_range_steps}
use Rattle.std.proofs.Common.{ap₂, arith, ◌∙◌, sym, ap, zero-add}
use Rattle.std.proofs.Math.Numerals.{add-one}
use Rattle.std.proofs.lemmas.Iterator.{YieldsList-from_slice, YieldsList-from_range}
use Rattle.std.proofs.lemmas.Iterator.Search.{all_from_yields_List, any_from_yields_List}
use Rattle.std.proofs.lemmas.List.{take_all, length-take-le, get_or-take}
use Rattle.std.proofs.lemmas.List.Folds.{list_all_more, list_any_more}
use Rattle.std.proofs.lemmas.List.FromFn.{length-range_with_len, get_or-range_with_len, length-enumerate_from, get_or-enumerate_from}
use Rattle.std.proofs.lemmas.List.Sums.{sum_by_more}
use Rattle.arith.specs.Bounded.{every, every_pair, some, sum, every_same, every_intro, every_fails, some_same}
use Rattle.arith.specs.Cases.{by_ltb, by_eqb}

module _ {A : Type 0} (d : A) (xs : List A) where
  pub every_in_list : (p : A → Bool) (n : ℕ) → n ≤ length xs → list_all p (take n xs) ≡ every (λ i. p (get_or xs i d)) n
  unfolding every
  every_in_list p zero h = refl
  every_in_list p (suc n) h = rw (← add-one, list_all_more p xs n d (omega arith), every_in_list p n (omega arith))

  pub some_in_list : (p : A → Bool) (n : ℕ) → n ≤ length xs → list_any p (take n xs) ≡ some (λ i. p (get_or xs i d)) n
  unfolding some
  some_in_list p zero h = refl
  some_in_list p (suc n) h = rw (← add-one, list_any_more p xs n d (omega arith), some_in_list p n (omega arith))

  pub sum_in_list : (f : A → ℕ) (n : ℕ) → n ≤ length xs → sum_by f (take n xs) ≡ sum (λ i. f (get_or xs i d)) n
  unfolding sum
  sum_in_list f zero h = refl
  sum_in_list f (suc n) h = rw (← add-one, sum_by_more f xs n d (omega arith), sum_in_list f n (omega arith))

  -- what `all` gives over the first n of a slice, where the closure computes p
  pub all_in_slice : {F : Type 0} {g : Mut F (Bor A × Unit {0}) Bool} {s u : _} {f : F} {r : Bool} (p : A → Bool) (n : ℕ) → n ≤ length xs →
      (ys : List (Bor A)) × (o : Option (Bor A)) × (j : F)
      × YieldsThen fronts s ys o u
      × FoldsTo (λ p x q. Called g p (x, tt) true q) f ys j
      × MatchOption o (r ≡ true) (λ x. (r ≡ false) × ((h : F) × Called g j (x, tt) false h)) →
      iter_rest s ≡ take n xs →
      ((x : Bor A) (b : Bool) (q : F) → Called g f (x, tt) b q → (q ≡ f) × (b ≡ p x.now)) →
      r ≡ every (λ i. p (get_or xs i d)) n
  all_in_slice p n h ran e k = all_from_yields_List p _ _ _ ran (YieldsList-from_slice (take n xs) e) k ∙ every_in_list p n h

  -- and `any`
  pub any_in_slice : {F : Type 0} {g : Mut F (Bor A × Unit {0}) Bool} {s u : _} {f : F} {r : Bool} (p : A → Bool) (n : ℕ) → n ≤ length xs →
      (ys : List (Bor A)) × (o : Option (Bor A)) × (j : F)
      × YieldsThen fronts s ys o u
      × FoldsTo (λ p x q. Called g p (x, tt) false q) f ys j
      × MatchOption o (r ≡ false) (λ x. (r ≡ true) × ((h : F) × Called g j (x, tt) true h)) →
      iter_rest s ≡ take n xs →
      ((x : Bor A) (b : Bool) (q : F) → Called g f (x, tt) b q → (q ≡ f) × (b ≡ p x.now)) →
      r ≡ some (λ i. p (get_or xs i d)) n
  any_in_slice p n h ran e k = any_from_yields_List p _ _ _ ran (YieldsList-from_slice (take n xs) e) k ∙ some_in_list p n h

-- the same over the numbers of a range from 0 on
pub every_in_range : (p : ℕ → Bool) (n : ℕ) → list_all p (range_with_len 0 n) ≡ every p n
every_in_range p n =
    let long = length-range_with_len 0 n in
    ap (list_all p) (sym (take_all n _ (omega (arith, long))))
    ∙ every_in_list 0 (range_with_len 0 n) p n (omega (arith, long))
    ∙ every_same (λ i. p (get_or (range_with_len 0 n) i 0)) p n (λ i l. ap p (get_or-range_with_len 0 n i 0 l ∙ zero-add i))

pub some_in_range : (p : ℕ → Bool) (n : ℕ) → list_any p (range_with_len 0 n) ≡ some p n
some_in_range p n =
    let long = length-range_with_len 0 n in
    ap (list_any p) (sym (take_all n _ (omega (arith, long))))
    ∙ some_in_list 0 (range_with_len 0 n) p n (omega (arith, long))
    ∙ some_same (λ i. p (get_or (range_with_len 0 n) i 0)) p n (λ i l. ap p (get_or-range_with_len 0 n i 0 l ∙ zero-add i))

module _ {F : Type 0} {g : Mut F (ℕ × Unit {0}) Bool} {s u : _} {f : F} {r : Bool} (p : ℕ → Bool) (n : ℕ) where
  pub all_in_range : (ys : List ℕ) × (o : Option ℕ) × (j : F)
      × YieldsThen nat_range_steps s ys o u
      × FoldsTo (λ p x q. Called g p (x, tt) true q) f ys j
      × MatchOption o (r ≡ true) (λ x. (r ≡ false) × ((h : F) × Called g j (x, tt) false h)) →
      s ≡ record { start = 0; end = n } →
      ((x : ℕ) (b : Bool) (q : F) → Called g f (x, tt) b q → (q ≡ f) × (b ≡ p x)) →
      r ≡ every p n
  all_in_range ran e k = all_from_yields_List p _ _ _ ran (YieldsList-from_range 0 n n e (omega arith)) k ∙ every_in_range p n

  pub any_in_range : (ys : List ℕ) × (o : Option ℕ) × (j : F)
      × YieldsThen nat_range_steps s ys o u
      × FoldsTo (λ p x q. Called g p (x, tt) false q) f ys j
      × MatchOption o (r ≡ false) (λ x. (r ≡ true) × ((h : F) × Called g j (x, tt) true h)) →
      s ≡ record { start = 0; end = n } →
      ((x : ℕ) (b : Bool) (q : F) → Called g f (x, tt) b q → (q ≡ f) × (b ≡ p x)) →
      r ≡ some p n
  any_in_range ran e k = any_from_yields_List p _ _ _ ran (YieldsList-from_range 0 n n e (omega arith)) k ∙ some_in_range p n

-- the order of two numbers, as `<=` tests it
le_tested : (a b : ℕ) → partial_le (λ x y. Some (nat_cmp x y)) a b ≡ leb a b
le_tested a b =
    by_ltb a b
    (λ t h. rw (t, le-leb a b (omega arith)))
    (λ t h. by_eqb a b (λ u e. rw (t, u, le-leb a b (omega arith))) (λ u e. rw (t, u, lt-leb a b (omega (arith, e)))))

module _ {A : Type 0} (d : A) (xs : List A) where
  -- a statement over the first n, looked up in these alone
  pub every_of_first : (p : A → Bool) (n : ℕ) → n ≤ length xs →
      every (λ i. p (get_or (take n xs) i d)) (length (take n xs)) ≡ every (λ i. p (get_or xs i d)) n
  every_of_first p n h = ap (every _) (length-take-le n xs h) ∙ every_same _ _ n (λ i l. ap p (get_or-take n xs i d l))

  -- and over their pairs
  pub pairs_in_list : (p : A → A → Bool) (n : ℕ) → n ≤ length xs →
      every_pair (λ i j. p (get_or (take n xs) i d) (get_or (take n xs) j d)) (length (take n xs))
      ≡ every_pair (λ i j. p (get_or xs i d) (get_or xs j d)) n
  pairs_in_list p n h =
      ap (every_pair _) (length-take-le n xs h)
      ∙ every_same _ _ n
      (λ j l. every_same _ _ j (λ i k. let b : i < n = omega arith in ap₂ p (get_or-take n xs i d b) (get_or-take n xs j d l)))

  -- the first n, each with its number
  pub every_numbered : (p : ℕ × A → Bool) (n : ℕ) → n ≤ length xs →
      list_all p (enumerate_from 0 (take n xs)) ≡ every (λ i. p (i, get_or xs i d)) n
  every_numbered p n h =
      let long = length-enumerate_from 0 (take n xs) ∙ length-take-le n xs h in
      ap (list_all p) (sym (take_all n _ (omega (arith, long))))
      ∙ every_in_list (0, d) (enumerate_from 0 (take n xs)) p n (omega (arith, long))
      ∙ every_same _ _ n
      (λ i l.
      let inside : i < length (take n xs) = omega (arith, length-take-le n xs h) in
      ap p (get_or-enumerate_from 0 (take n xs) i (0, d) inside ∙ ap₂ (λ (k : ℕ) (x : A). (k, x)) (zero-add i) (get_or-take n xs i d l)))

  next_tested : (key : A → ℕ) (n i : ℕ) → i + 1 < n →
      partial_le (λ a c. Some (nat_cmp a c)) (key (get_or (take n xs) i d)) (key (get_or (take n xs) (i + 1) d))
      ≡ leb (key (get_or xs i d)) (key (get_or xs (i + 1) d))
  next_tested key n i l =
      let b : i < n = omega arith in
      ap₂ (λ (x y : A). partial_le (λ a c. Some (nat_cmp a c)) (key x) (key y)) (get_or-take n xs i d b) (get_or-take n xs (i + 1) d l)
      ∙ le_tested _ _

  -- what `is_sorted_by_key` gives over the first n, where the closure computes the key
  pub rises_in_slice : (key : A → ℕ) (n : ℕ) → n ≤ length xs → (r : Bool) →
      IsAllAdjacentAnswer (λ x y b. b ≡ partial_le (λ a c. Some (nat_cmp a c)) (key x) (key y)) (take n xs) r →
      r ≡ every (λ i. leb (key (get_or xs i d)) (key (get_or xs (i + 1) d))) (n - 1)
  rises_in_slice key n h true e =
      sym (every_intro _ (n - 1)
      (λ i l.
      let inside : i + 1 < length (take n xs) = omega (arith, length-take-le n xs h) in
      sym (e i d inside ∙ next_tested key n i (omega arith))))
  rises_in_slice key n h false e =
      let inside : e.0 + 1 < n = omega (arith, e.1, length-take-le n xs h) in
      sym (every_fails _ (n - 1) e.0 (omega arith) (sym (e.2 d ∙ next_tested key n e.0 inside)))
