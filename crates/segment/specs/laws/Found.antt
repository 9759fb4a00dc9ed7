-- What the code makes of what the lookup found.
use Prim.Native.Nat.{ℕ, zero, suc, ◌+◌, ◌-◌, ◌≤◌, ◌<◌, min}
use Rattle.std.specs.Prelude.{List, Some, None, ◌⊎◌, ◌≡◌, refl, ltb, length, take}
use Rattle.std.specs.declared.option.Option.{Option}
use Rattle.std.proofs.Common.{inl, inr, ap, ◌∙◌, get_or-take}
use native.Mathlib.Omega.{arith}
use Rattle.arith.specs.Cases.{by_bool, by_ltb}
use Rattle.memory.specs.declared.JobType.{JobType}
use Rattle.memory.specs.declared.MemAddress.{MemAddress}
use Rattle.memory.specs.declared.Task.{Task}
use Rattle.plan.specs.Questions.{area_of, sub_area_of, is_of, size_of}
use Rattle.plan.specs.declared.records.Plan.{Plan}
use Rattle.plan.specs.declared.records.SubAreaRecord.{SubAreaRecord}
use Rattle.plan.specs.Records.{no_sub_area}
use Rattle.segment.specs.laws.LookupLaws.{located_front}
use Rattle.segment.specs.Mapping.{find, located, mapped}
use Rattle.segment.specs.Segments.{retries_of, segment_length, segment_in, no_segment, segment_of, segment_at}
use Rattle.segment.specs.declared.FoundByte.{FoundByte}
use Rattle.segment.specs.declared.Segment.{Segment}

-- the record found; 0 where none is
abbrev pub index_of : Option FoundByte → ℕ
index_of None = 0
index_of (Some byte) = byte.sub_area

-- the record found is one that a plan has room for, the offset lies in it, and the address is that of the byte there
abbrev pub Inside : SubAreaRecord → Option FoundByte → Type 0
Inside s None = Unit
Inside s (Some byte) = (byte.sub_area < 32) × (byte.offset < size_of s) × (byte.address.0 ≡ s.start + byte.offset)

-- the segment there, with r bytes of the job left
abbrev pub segment_if : JobType → SubAreaRecord → ℕ → Option FoundByte → Segment
segment_if k s r None = no_segment
segment_if k s r (Some byte) = segment_in k byte.sub_area s byte.offset r

-- at the address of the offset
pub segment_there : (k : JobType) (i : ℕ) (s : SubAreaRecord) (y r : ℕ) (m : MemAddress) → m.0 ≡ s.start + y →
    record { start = m; length = segment_length k s m.0 (min r (size_of s - y)); device = s.device; retries = retries_of k s; sub_area = i; sector = s.erase.unit }
    ≡ segment_in k i s y r
segment_there k i s y r m e =
    ap
    (λ x. record { start = record { 0 = x }; length = segment_length k s x (min r (size_of s - y)); device = s.device; retries = retries_of k s; sub_area = i; sector = s.erase.unit })
    e

-- the segment that is due once x bytes are processed
abbrev pub segment_from : List SubAreaRecord → ℕ → ℕ → ℕ → Task → ℕ → Segment
segment_from l n start a t x = segment_of t.kind l (t.length - x) (located l n start a (t.address.0 + x))

-- what is found is one of the records looked at, at an offset in it
unfoldable Known : List SubAreaRecord → ℕ → Option FoundByte → Type 0
Known l n None = Unit
Known l n (Some byte) =
    let s = sub_area_of l byte.sub_area in (byte.sub_area < n) × (byte.offset < size_of s) × (byte.address.0 ≡ s.start + byte.offset)

module _ (l : List SubAreaRecord) (a n : ℕ) where
  find_known : (k i x : ℕ) → i + k ≡ n → Known l n (find k l i a x)
  unfolding find Known
  find_known zero i x e = tt
  find_known (suc k) i x e =
      by_bool (is_of a (sub_area_of l i))
      (λ t.
      by_ltb x (size_of (sub_area_of l i))
      (λ u h. simp (t, u) (omega arith, h, refl))
      (λ u _. simp (t, u) (find_known k (i + 1) (x - size_of (sub_area_of l i)) (omega arith))))
      (λ t. simp t (find_known k (i + 1) x (omega arith)))

  located_known : (start x : ℕ) → Known l n (located l n start a x)
  unfolding Known
  located_known start x = by_bool (ltb x start) (λ t. simp t tt) (λ t. simp t (find_known n 0 (x - start) (omega arith)))

  module _ (start x : ℕ) where
    within : (f : Option FoundByte) → f ≡ located l n start a x → Known l n f
    within f e = rw e (located_known start x)

    pub index_within : (f : Option FoundByte) → f ≡ located l n start a x → n ≤ 32 → index_of f < 32
    unfolding Known
    index_within None e few = omega arith
    index_within (Some byte) e few = let k = within (Some byte) e in omega (arith, k.0)

    pub offset_inside : (f : Option FoundByte) → f ≡ located l n start a x → n ≤ 32 → Inside (sub_area_of l (index_of f)) f
    unfolding Known
    offset_inside None e few = tt
    offset_inside (Some byte) e few = let k = within (Some byte) e in (omega (arith, k.0), k.1, k.2)

pub if_found : (k : JobType) (l : List SubAreaRecord) (r : ℕ) (f : Option FoundByte) → segment_if k (sub_area_of l (index_of f)) r f ≡ segment_of k l r f
if_found k l r None = refl
if_found k l r (Some byte) = refl

-- what is found among the first n records, lent, makes the segment that it makes of all of them
front_segment : (k : JobType) (n : ℕ) (l : List SubAreaRecord) (r : ℕ) (f : Option FoundByte) → Known l n f → segment_of k (take n l) r f ≡ segment_of k l r f
unfolding Known
front_segment k n l r None h = refl
front_segment k n l r (Some byte) h = ap (λ s. segment_in k byte.sub_area s byte.offset r) (get_or-take n l byte.sub_area no_sub_area h.0)

pub segment_from_front : (n : ℕ) (l : List SubAreaRecord) → n ≤ length l → (start a : ℕ) (t : Task) (x : ℕ) →
    segment_from (take n l) (length (take n l)) start a t x ≡ segment_from l n start a t x
segment_from_front n l h start a t x =
    ap (segment_of t.kind (take n l) (t.length - x)) (located_front n l h start a (t.address.0 + x))
    ∙ front_segment t.kind n l (t.length - x) _ (located_known l a n start (t.address.0 + x))

-- where a byte is found, its record is among those looked at, and it lies inside it
module _ (l : List SubAreaRecord) (start a x : ℕ) (byte : FoundByte) (here : Some byte ≡ located l (length l) start a x) where
  pub found_index : byte.sub_area < length l
  unfolding Known
  found_index = (within l a (length l) start x (Some byte) here).0

  pub found_inside : length l ≤ 32 → Inside (sub_area_of l byte.sub_area) (Some byte)
  found_inside few = offset_inside l a (length l) start x (Some byte) here few

-- of a plan
pub located_mapped : (p : Plan) (a x : ℕ) → located p.sub_areas p.sub_area_count (area_of p.areas a).start.0 a x ≡ mapped p a (record { 0 = x })
unfolding mapped
located_mapped p a x = refl

pub segment_from_lem : (p : Plan) (a : ℕ) (t : Task) (x : ℕ) →
    segment_from p.sub_areas p.sub_area_count (area_of p.areas a).start.0 a t x ≡ segment_at p a t x
unfolding segment_at mapped
segment_from_lem p a t x = refl

-- the sub-area of a segment is one that a plan has room for
pub sub_area_room : (p : Plan) → p.sub_area_count ≤ 32 → (a : ℕ) (t : Task) (x : ℕ) → (segment_at p a t x).sub_area < 32
unfolding segment_at mapped
sub_area_room p few a t x = room (located p.sub_areas p.sub_area_count (area_of p.areas a).start.0 a (t.address.0 + x)) refl
  where
    room : (f : Option FoundByte) → f ≡ located p.sub_areas p.sub_area_count (area_of p.areas a).start.0 a (t.address.0 + x) →
        (segment_of t.kind p.sub_areas (t.length - x) f).sub_area < 32
    room None e = omega arith
    room (Some byte) e = index_within p.sub_areas a p.sub_area_count (area_of p.areas a).start.0 (t.address.0 + x) (Some byte) e few

-- the sector of a segment is that of its sub-area; one that lies in none has no bytes
pub sector_kept : (p : Plan) (a : ℕ) (t : Task) (x : ℕ) →
    ((segment_at p a t x).length ≡ 0) ⊎ ((segment_at p a t x).sector ≡ (sub_area_of p.sub_areas (segment_at p a t x).sub_area).erase.unit)
unfolding segment_at
sector_kept p a t x = kept (mapped p a (record { 0 = t.address.0 + x }))
  where
    kept : (f : Option FoundByte) →
        let s = segment_of t.kind p.sub_areas (t.length - x) f in (s.length ≡ 0) ⊎ (s.sector ≡ (sub_area_of p.sub_areas s.sub_area).erase.unit)
    kept None = inl refl
    kept (Some byte) = inr refl
