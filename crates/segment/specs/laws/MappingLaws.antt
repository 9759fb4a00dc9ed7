-- Where the lookup finds the bytes of an area.
use Prim.Native.Nat.{ℕ, zero, suc, ◌+◌, ◌-◌, ◌≤◌, ◌<◌}
use Rattle.std.proofs.Math.Path.{◌≡◌}
use Rattle.std.specs.Prelude.{refl, true, false, Some, None}
use Rattle.std.specs.declared.option.Option.{Option}
use Rattle.std.proofs.Common.{sym, ap, ◌∙◌, arith}
use borrow.Author.Tests.{eqb-true, eq-eqb, le-ltb}
use Rattle.arith.specs.Bounded.{sum, sum_mono}
use Rattle.arith.specs.Cases.{by_bool, by_ltb, by_eqb}
use Rattle.memory.specs.declared.MemAddress.{MemAddress}
use Rattle.plan.specs.Questions.{area_of, sub_area_of, is_of, size_of, size_in, area_size}
use Rattle.plan.proofs.laws.SizeLaws.{size_more}
use Rattle.plan.specs.WellFormed.{WellFormed}
use Rattle.plan.specs.declared.records.Plan.{Plan}
use Rattle.segment.specs.Mapping.{find, mapped}
use Rattle.segment.specs.declared.FoundByte.{FoundByte}

-- Logical address x of area a is byte y of record i, which is one of area a's: behind the area's start are the sizes of its
-- earlier records and then y.
pub record Place (p : Plan) (a x i y : ℕ) : Type 0 where
  pub known : i < p.sub_area_count
  pub of_area : (sub_area_of p.sub_areas i).area ≡ a
  pub inside : y < size_of (sub_area_of p.sub_areas i)
  pub is_at : (area_of p.areas a).start.0 + (area_size p.sub_areas i a + y) ≡ x

-- what the lookup found is the place of x, with its address; outside it is where the area has ended
-- the physical address of byte y of record i
abbrev pub address_in : Plan → ℕ → ℕ → MemAddress
address_in p i y = record { 0 = (sub_area_of p.sub_areas i).start + y }

abbrev Finds : Plan → ℕ → ℕ → Option FoundByte → Type 0
Finds p a x None = (area_of p.areas a).start.0 + area_size p.sub_areas p.sub_area_count a ≤ x
Finds p a x (Some byte) = Place p a x byte.sub_area byte.offset × (byte.address ≡ address_in p byte.sub_area byte.offset)

module _ (p : Plan) (a : ℕ) where
  -- a record of the area adds its size to the area
  own_size : (i : ℕ) → is_of a (sub_area_of p.sub_areas i) ≡ true →
      area_size p.sub_areas (i + 1) a ≡ area_size p.sub_areas i a + size_of (sub_area_of p.sub_areas i)
  unfolding size_in
  own_size i e = rw e at (size_more p.sub_areas a i)

  -- any other record adds nothing
  other_size : (i : ℕ) → is_of a (sub_area_of p.sub_areas i) ≡ false → area_size p.sub_areas (i + 1) a ≡ area_size p.sub_areas i a
  unfolding size_in
  other_size i e = omega (arith, rw e at (size_more p.sub_areas a i))

  -- more records, no smaller an area
  size_rises : (i j : ℕ) → i ≤ j → area_size p.sub_areas i a ≤ area_size p.sub_areas j a
  size_rises = sum_mono (λ k. size_in a (sub_area_of p.sub_areas k))

  -- the lookup from record i on, of which k are left, finds the byte at offset o behind the earlier records
  finds_from : (k i o x : ℕ) → i + k ≡ p.sub_area_count → (area_of p.areas a).start.0 + (area_size p.sub_areas i a + o) ≡ x →
      Finds p a x (find k p.sub_areas i a o)
  unfolding find
  finds_from zero i o x c e = omega (arith, size_rises p.sub_area_count i (omega arith))
  finds_from (suc k) i o x c e =
      by_bool (is_of a (sub_area_of p.sub_areas i))
      (λ t.
      by_ltb o (size_of (sub_area_of p.sub_areas i))
      (λ u l. simp (t, u) (record { known = omega arith; of_area = eqb-true _ a t; inside = l; is_at = e }, refl))
      (λ u l. simp (t, u) (finds_from k (i + 1) (o - size_of (sub_area_of p.sub_areas i)) x (omega arith) (omega (arith, own_size i t)))))
      (λ t. simp t (finds_from k (i + 1) o x (omega arith) (omega (arith, other_size i t))))

  -- so does the mapping from the area's start on
  finds : (x : ℕ) → (area_of p.areas a).start.0 ≤ x → Finds p a x (mapped p a (record { 0 = x }))
  unfolding mapped
  finds x h =
      rw (le-ltb x (area_of p.areas a).start.0 h)
      (finds_from p.sub_area_count 0 (x - (area_of p.areas a).start.0) x (omega arith) (unfold sum in omega arith))

  -- what the mapping says of an address is its place
  pub mapped_place : (x : ℕ) (byte : FoundByte) → mapped p a (record { 0 = x }) ≡ Some byte →
      Place p a x byte.sub_area byte.offset × (byte.address ≡ address_in p byte.sub_area byte.offset)
  unfolding mapped
  mapped_place x byte e =
      by_ltb x (area_of p.areas a).start.0
      (λ t _. let f = rw t at e in let z : ◌≡◌ {A = ℕ} 0 1 = cc in absurd (omega arith))
      (λ _ l. rw e at (finds x l))

  -- the record of a place adds its size to the area
  place_size : {x i y : ℕ} → Place p a x i y →
      area_size p.sub_areas (i + 1) a ≡ area_size p.sub_areas i a + size_of (sub_area_of p.sub_areas i)
  place_size {x} {i} {y} h = own_size i (eq-eqb _ a h.of_area)

  -- an address has one place
  pub one_place : {x i y j z : ℕ} → Place p a x i y → Place p a x j z → (i ≡ j) × (y ≡ z)
  one_place {x} {i} {y} {j} {z} h k =
      by_ltb i j (λ _ l. absurd (omega (arith, place_size h, size_rises (i + 1) j (omega arith)))) λ _ l.
      by_ltb j i (λ _ m. absurd (omega (arith, place_size k, size_rises (j + 1) i (omega arith)))) λ _ m.
      let e : i ≡ j = omega arith in
      (e, omega (arith, ap (λ n. area_size p.sub_areas n a) e))

  -- the place of an address is what the mapping says of it
  pub place_mapped : {x i y : ℕ} → Place p a x i y → mapped p a (record { 0 = x }) ≡ Some (record { sub_area = i; offset = y; address = address_in p i y })
  place_mapped {x} {i} {y} h =
      same (mapped p a (record { 0 = x })) (finds x (omega arith))
    where
      same : (f : Option FoundByte) → Finds p a x f → f ≡ Some (record { sub_area = i; offset = y; address = address_in p i y })
      same None k = absurd (omega (arith, place_size h, size_rises (i + 1) p.sub_area_count (omega arith)))
      same (Some byte) k = let e = one_place k.0 h in rw (k.1, e.0, e.1)

  -- a place is inside the area
  pub place_before_end : {x i y : ℕ} → Place p a x i y → x < (area_of p.areas a).start.0 + area_size p.sub_areas p.sub_area_count a
  place_before_end {x} {i} {y} h = omega (arith, place_size h, size_rises (i + 1) p.sub_area_count (omega arith))

  -- every logical address of the area has a place
  pub place_of : (x : ℕ) → (area_of p.areas a).start.0 ≤ x →
      x < (area_of p.areas a).start.0 + area_size p.sub_areas p.sub_area_count a → (i : ℕ) × (y : ℕ) × Place p a x i y
  place_of x h l = some (mapped p a (record { 0 = x })) (finds x h)
    where
      some : (f : Option FoundByte) → Finds p a x f → (i : ℕ) × (y : ℕ) × Place p a x i y
      some None k = absurd (omega arith)
      some (Some byte) k = (byte.sub_area, byte.offset, k.0)

  -- k bytes on, inside the same record
  pub place_inside : {x i y : ℕ} (k : ℕ) → Place p a x i y → y + k < size_of (sub_area_of p.sub_areas i) → Place p a (x + k) i (y + k)
  place_inside k h l = record { known = h.known; of_area = h.of_area; inside = l; is_at = omega arith }

  -- at the end of a record the next begins
  pub place_next : {x i y j z : ℕ} (k : ℕ) → Place p a x i y → y + k ≡ size_of (sub_area_of p.sub_areas i) → Place p a (x + k) j z → z ≡ 0
  place_next {x} {i} {y} {j} {z} k h e g =
      by_ltb i j
      (λ _ l. omega (arith, place_size h, size_rises (i + 1) j (omega arith)))
      (λ _ l. absurd (omega (arith, place_size h, place_size g, size_rises (j + 1) (i + 1) (omega arith))))

-- The mapping is one to one: a byte of the image is one byte of one area.
pub one_address : (p : Plan) → WellFormed p → {a b x x' i j y z : ℕ} → Place p a x i y → Place p b x' j z →
    (sub_area_of p.sub_areas i).start + y ≡ (sub_area_of p.sub_areas j).start + z → (a ≡ b) × (x ≡ x')
one_address p w {a} {b} {x} {x'} {i} {j} {y} {z} h k e =
    by_eqb i j
    (λ _ d. same (rw d at h) (omega (arith, ap (λ n. (sub_area_of p.sub_areas n).start) d)))
    (λ _ d.
    absurd
    (w.bytes_apart i j h.known k.known d ((sub_area_of p.sub_areas i).start + y) (omega arith, omega arith) (omega arith, omega arith)))
  where
    same : Place p a x j y → y ≡ z → (a ≡ b) × (x ≡ x')
    same g q =
        let d : a ≡ b = sym g.of_area ∙ k.of_area in
        let g' : Place p b x j y = rw d at g in
        (d, omega arith)
