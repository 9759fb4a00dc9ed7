-- The lookup at a record, and over the first records alone.
use Rattle.std.specs.Prelude.{ℕ, zero, suc, ◌+◌, ◌-◌, ◌≤◌, ◌<◌, List, Some, None, ◌≡◌, ◌≢◌, refl, length, take}
use Rattle.std.proofs.Common.{arith, eq-eqb, ne_eqb, lt-ltb, le-ltb, get_or-take}
use Rattle.std.proofs.lemmas.List.{length-take-le}
use Rattle.plan.specs.Questions.{sub_area_of, size_of}
use Rattle.plan.specs.Records.{no_sub_area}
use Rattle.plan.specs.declared.records.SubAreaRecord.{SubAreaRecord}
use Rattle.segment.specs.Mapping.{find, located}

-- at record i of n, for the byte at offset x of area a behind the earlier ones
module _ (n i : ℕ) (h : i < n) (l : List SubAreaRecord) (a x : ℕ) where
  one_left : n - i ≡ suc (n - (i + 1))
  one_left = omega (arith, h)

  -- a record of another area is passed over
  pub find_other : (sub_area_of l i).area ≢ a → find (n - (i + 1)) l (i + 1) a x ≡ find (n - i) l i a x
  unfolding find
  find_other f = rw (one_left, ne_eqb _ _ f)

  module _ (own : (sub_area_of l i).area ≡ a) where
    -- the byte is in the record
    pub find_here : x < size_of (sub_area_of l i) →
        Some (record { sub_area = i; offset = x; address = record { 0 = (sub_area_of l i).start + x } }) ≡ find (n - i) l i a x
    unfolding find
    find_here f = rw (one_left, eq-eqb _ _ own, lt-ltb _ _ f)

    -- or behind it
    pub find_behind : size_of (sub_area_of l i) ≤ x → find (n - (i + 1)) l (i + 1) a (x - size_of (sub_area_of l i)) ≡ find (n - i) l i a x
    unfolding find
    find_behind f = rw (one_left, eq-eqb _ _ own, le-ltb _ _ f)

-- behind the last record there is no byte
pub find_end : (n i : ℕ) → n ≤ i → (l : List SubAreaRecord) (a x : ℕ) → None ≡ find (n - i) l i a x
unfolding find
find_end n i h l a x = let e : n - i ≡ 0 = omega (arith, h) in rw e

-- among the first n records, those behind them do not matter
pub find_front : (k i n : ℕ) (l : List SubAreaRecord) (a x : ℕ) → i + k ≤ n → find k (take n l) i a x ≡ find k l i a x
unfolding find
find_front zero i n l a x h = refl
find_front (suc k) i n l a x h =
    let here : sub_area_of (take n l) i ≡ sub_area_of l i = get_or-take n l i no_sub_area (omega arith) in
    let y = x - size_of (sub_area_of l i) in
    let passed : find k (take n l) (i + 1) a y ≡ find k l (i + 1) a y = find_front k (i + 1) n l a y (omega arith) in
    let skipped : find k (take n l) (i + 1) a x ≡ find k l (i + 1) a x = find_front k (i + 1) n l a x (omega arith) in
    rw (here, passed, skipped)

-- a mapping over the first n records, lent, is the mapping by them
pub located_front : (n : ℕ) (l : List SubAreaRecord) → n ≤ length l → (start a x : ℕ) →
    located (take n l) (length (take n l)) start a x ≡ located l n start a x
located_front n l h start a x = rw (length-take-le n l h, find_front n 0 n l a (x - start) (omega arith))
