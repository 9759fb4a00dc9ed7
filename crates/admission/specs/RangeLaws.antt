-- Questions 12 and 13 by the cases that the code tests: a range is inside its area where its last byte is found.
use Rattle.std.specs.Prelude.{ℕ, ◌+◌, ◌-◌, ◌≤◌, ◌<◌, Bool, false, ◌&&◌, List, Some, None, is_some, leb, ltb}
use Rattle.std.specs.declared.option.Option.{Option}
use Rattle.std.proofs.Math.Bool.{true}
use Rattle.std.proofs.lemmas.Bool.{false≢true}
use Rattle.std.proofs.Math.Path.{◌≡◌, refl, sym}
use Rattle.std.proofs.Common.{ap, ◌∙◌, add-zero, arith}
use borrow.Author.Tests.{le-leb, lt-leb}
use Rattle.arith.specs.Cases.{pick, by_leb, by_ltb}
use Rattle.arith.specs.Multiples.{multiple}
use Rattle.arith.specs.Plain.{plain}
use Rattle.memory.specs.declared.JobType.{JobType}
use Rattle.memory.specs.declared.JobType.TheVariants.{NoJob, Write, Read, Compare, Erase, BlankCheck, Lock}
use Rattle.memory.specs.declared.LogicalAddress.{LogicalAddress}
use Rattle.memory.specs.declared.MemAddress.{MemAddress}
use Rattle.memory.specs.declared.Task.{Task}
use Rattle.plan.specs.Questions.{area_of, sub_area_of, area_size}
use Rattle.plan.specs.declared.records.Plan.{Plan}
use Rattle.plan.specs.declared.records.SubAreaRecord.{SubAreaRecord}
use Rattle.rules.specs.Admission.{is_inside, starts_on_unit, ends_on_unit, is_aligned}
use Rattle.segment.specs.laws.Found.{index_of, Inside, segment_if, index_within, offset_inside, if_found, located_mapped}
use Rattle.segment.specs.Mapping.{located, mapped}
use Rattle.segment.specs.laws.MappingLaws.{Place, mapped_place, place_mapped, place_of, place_before_end}
use Rattle.segment.specs.Segments.{is_lock, unit_of, retries_of, segment_of, segment_at}
use Rattle.segment.specs.declared.FoundByte.{FoundByte}
use Rattle.segment.specs.declared.Segment.{Segment}

-- the offset of what was found; 0 where nothing was
abbrev pub offset_of : Option FoundByte → ℕ
offset_of None = 0
offset_of (Some byte) = byte.offset

-- the last of n bytes from logical address x on, in area a, which starts at `start`
abbrev pub last_byte : List SubAreaRecord → ℕ → ℕ → ℕ → ℕ → ℕ → Option FoundByte
last_byte l count start a x n = pick (leb 1 n && leb start x) (located l count start a (x + n - 1)) None

-- k bytes before a place, if the sub-area reaches so far back
-- the address found is no smaller than the offset
abbrev pub Behind : Option FoundByte → Type 0
Behind None = Unit
Behind (Some byte) = byte.offset ≤ byte.address.0

abbrev pub back_from : Option FoundByte → ℕ → Option FoundByte
back_from None k = None
back_from (Some byte) k =
    pick (ltb byte.offset k) None
    (Some (record { sub_area = byte.sub_area; offset = byte.offset - k; address = record { 0 = byte.address.0 - k } }))

-- a range inside its area has a byte
pub inside_some : (p : Plan) (a : ℕ) (address : LogicalAddress) (n : ℕ) → is_inside p a address n ≡ true → 1 ≤ n
unfolding is_inside
inside_some p a address n e = (simp plain at e).0

module _ (p : Plan) (a : ℕ) (address : LogicalAddress) (n : ℕ) where
  abbrev pub last_in : Option FoundByte
  last_in = last_byte p.sub_areas p.sub_area_count (area_of p.areas a).start.0 a address.0 n

  inside_none : n < 1 → is_inside p a address n ≡ false
  unfolding is_inside
  inside_none h = rw (lt-leb 1 n h)

  module _ (some : 1 ≤ n) where
    inside_before : address.0 < (area_of p.areas a).start.0 → is_inside p a address n ≡ false
    unfolding is_inside
    inside_before h = simp (le-leb 1 n some, lt-leb (area_of p.areas a).start.0 address.0 h)

    module _ (from : (area_of p.areas a).start.0 ≤ address.0) where
      -- inside, if the last byte is found
      inside_last : (f : Option FoundByte) → f ≡ mapped p a (record { 0 = address.0 + n - 1 }) → is_some f ≡ is_inside p a address n
      unfolding is_inside
      inside_last None e =
          by_leb (address.0 + n) ((area_of p.areas a).start.0 + area_size p.sub_areas p.sub_area_count a)
          (λ _ h.
          let (i, y, place) = place_of p a (address.0 + n - 1) (omega arith) (omega arith) in
          let here = place_mapped p a place in
          let z : ◌≡◌ {A = ℕ} 0 1 = cc in
          absurd (omega arith))
          (λ g _. simp (le-leb 1 n some, le-leb (area_of p.areas a).start.0 address.0 from, g))
      inside_last (Some byte) e =
          let place = (mapped_place p a (address.0 + n - 1) byte (sym e)).0 in
          sym (simp plain (some, (from, omega (arith, place_before_end p a place))))

      last_is : last_in ≡ mapped p a (record { 0 = address.0 + n - 1 })
      last_is = rw (le-leb 1 n some, le-leb (area_of p.areas a).start.0 address.0 from) (located_mapped p a (address.0 + n - 1))

  pub last_inside : is_some last_in ≡ is_inside p a address n
  last_inside =
      by_leb 1 n
      (λ e some.
      by_leb (area_of p.areas a).start.0 address.0
      (λ _ from. inside_last some from last_in (last_is some from))
      (λ f h. simp (e, f) (sym (inside_before some h))))
      (λ e h. simp e (sym (inside_none h)))

  last_mapped : is_inside p a address n ≡ true → last_in ≡ mapped p a (record { 0 = address.0 + n - 1 })
  unfolding is_inside
  last_mapped e = let r = simp plain at e in last_is r.0 r.1.0

  -- with what the code found: not inside, or inside, with the last byte where the mapping says
  module _ (f : Option FoundByte) (is : f ≡ last_in) where
    pub last_none : is_some f ≡ false → is_inside p a address n ≡ false
    last_none none = sym last_inside ∙ ap is_some (sym is) ∙ none

    pub last_found : is_some f ≡ true → (is_inside p a address n ≡ true) × (f ≡ mapped p a (record { 0 = address.0 + n - 1 }))
    last_found found = let e = sym last_inside ∙ ap is_some (sym is) ∙ found in (e, is ∙ last_mapped e)

  -- the first byte is then found too
  first_found : is_inside p a address n ≡ true → (f : Option FoundByte) → f ≡ mapped p a address → is_some f ≡ true
  unfolding is_inside
  first_found e None g =
      let r = simp plain at e in
      let (i, y, place) = place_of p a address.0 (omega (arith, r)) (omega (arith, r)) in
      let here = place_mapped p a place in
      let z : ◌≡◌ {A = ℕ} 0 1 = cc in
      absurd (omega arith)
  first_found e (Some byte) g = refl

-- what was found lies in one of the records that a plan keeps, and no further in than its address
module _ (p : Plan) (a x : ℕ) where
  pub mapped_index : p.sub_area_count ≤ 32 → (f : Option FoundByte) → f ≡ mapped p a (record { 0 = x }) → index_of f < 32
  mapped_index h f e = index_within p.sub_areas a p.sub_area_count (area_of p.areas a).start.0 x f (e ∙ sym (located_mapped p a x)) h

  pub mapped_offset : (f : Option FoundByte) → f ≡ mapped p a (record { 0 = x }) → offset_of f ≤ x
  mapped_offset None e = omega arith
  mapped_offset (Some byte) e = let place = (mapped_place p a x byte (sym e)).0 in omega (arith, place.is_at)

  pub mapped_inside : p.sub_area_count ≤ 32 → (f : Option FoundByte) → f ≡ mapped p a (record { 0 = x }) → Inside (sub_area_of p.sub_areas (index_of f)) f
  mapped_inside h f e = offset_inside p.sub_areas a p.sub_area_count (area_of p.areas a).start.0 x f (e ∙ sym (located_mapped p a x)) h

  pub mapped_behind : (f : Option FoundByte) → f ≡ mapped p a (record { 0 = x }) → Behind f
  mapped_behind None e = tt
  mapped_behind (Some byte) e = omega (arith, ap (λ (z : MemAddress). z.0) (mapped_place p a x byte (sym e)).1)

  -- n bytes end at a place: the first of them, if it is in the same sub-area
  pub back_mapped : (n : ℕ) (f : Option FoundByte) → f ≡ mapped p a (record { 0 = x + n - 1 }) → 1 ≤ n → is_some (back_from f (n - 1)) ≡ true →
      back_from f (n - 1) ≡ mapped p a (record { 0 = x })
  back_mapped n None e some h = absurd (false≢true h)
  back_mapped n (Some byte) e some h =
      by_ltb byte.offset (n - 1) (λ t _. absurd (false≢true (rw t at h))) λ t l.
      let (place, address) = mapped_place p a (x + n - 1) byte (sym e) in
      let here : Place p a x byte.sub_area (byte.offset - (n - 1)) = record { known = place.known; of_area = place.of_area; inside = omega (arith, place.inside); is_at = omega (arith, place.is_at) } in
      let start = (sub_area_of p.sub_areas byte.sub_area).start in
      let lower : start + byte.offset - (n - 1) ≡ start + (byte.offset - (n - 1)) = omega arith in
      rw (t, address, lower) (sym (place_mapped p a here))

-- question 13 of a range inside its area, by the records that hold its first and its last byte
module _ (p : Plan) (a : ℕ) (t : Task) (f : Option FoundByte) (first : f ≡ mapped p a t.address) where
  both_found : (g : Option FoundByte) → g ≡ mapped p a (record { 0 = t.address.0 + t.length - 1 }) → is_some f ≡ true → is_some g ≡ true →
      (multiple (unit_of t.kind (sub_area_of p.sub_areas (index_of f))) (offset_of f) && multiple (unit_of t.kind (sub_area_of p.sub_areas (index_of g))) (offset_of g + 1))
      ≡ is_aligned p a t
  unfolding is_aligned
  both_found g last h k = rw (← first, ← last) (by_found f h g k)
    where
      by_found : (f : Option FoundByte) → is_some f ≡ true → (g : Option FoundByte) → is_some g ≡ true →
          (multiple (unit_of t.kind (sub_area_of p.sub_areas (index_of f))) (offset_of f) && multiple (unit_of t.kind (sub_area_of p.sub_areas (index_of g))) (offset_of g + 1))
          ≡ (starts_on_unit t.kind p.sub_areas f && ends_on_unit t.kind p.sub_areas g)
      by_found None h g k = absurd (false≢true h)
      by_found (Some byte) h None k = absurd (false≢true k)
      by_found (Some byte) h (Some end) k = refl

  pub aligned_ends : (g : Option FoundByte) → is_some g ≡ true → (is_inside p a t.address t.length ≡ true) × (g ≡ mapped p a (record { 0 = t.address.0 + t.length - 1 })) →
      (i j : ℕ) → i ≡ index_of f → j ≡ index_of g → (answer : Bool) →
      answer ≡ (multiple (unit_of t.kind (sub_area_of p.sub_areas i)) (offset_of f) && multiple (unit_of t.kind (sub_area_of p.sub_areas j)) (offset_of g + 1)) →
      answer ≡ is_aligned p a t
  aligned_ends g found (inside, last) i j e e' answer is =
      (rw (e, e') at is) ∙ both_found g last (first_found p a t.address t.length inside f first) found

-- the retries of a job's first segment, whose place was found; a lock request has none
pub first_retries : (p : Plan) (a : ℕ) (t : Task) (f : Option FoundByte) → f ≡ mapped p a t.address → (i : ℕ) → i ≡ index_of f → (s : Segment) →
    s ≡ segment_if t.kind (sub_area_of p.sub_areas i) (t.length - 0) f → s.retries ≡ (segment_at p a t 0).retries
unfolding segment_at
first_retries p a t f e i at s is =
    let here : f ≡ mapped p a (record { 0 = t.address.0 + 0 }) = e ∙ ap (λ x. mapped p a (record { 0 = x })) (sym (add-zero t.address.0)) in
    ap (λ (x : Segment). x.retries)
    (is ∙ ap (λ k. segment_if t.kind (sub_area_of p.sub_areas k) (t.length - 0) f) at ∙ if_found t.kind p.sub_areas (t.length - 0) f
    ∙ ap (segment_of t.kind p.sub_areas (t.length - 0)) here)

lock_retries : (k : JobType) → is_lock k ≡ true → (s : SubAreaRecord) → 0 ≡ retries_of k s
lock_retries Lock e s = refl
lock_retries NoJob e s = refl
lock_retries Read e s = refl
lock_retries Compare e s = refl
lock_retries BlankCheck e s = refl
lock_retries Write e s = absurd (false≢true e)
lock_retries Erase e s = absurd (false≢true e)

lock_segment : (k : JobType) → is_lock k ≡ true → (l : List SubAreaRecord) (r : ℕ) (f : Option FoundByte) → 0 ≡ (segment_of k l r f).retries
lock_segment k e l r None = refl
lock_segment k e l r (Some byte) = lock_retries k e (sub_area_of l byte.sub_area)

pub lock_first : (p : Plan) (a : ℕ) (t : Task) → is_lock t.kind ≡ true → 0 ≡ (segment_at p a t 0).retries
unfolding segment_at
lock_first p a t e = lock_segment t.kind e p.sub_areas (t.length - 0) (mapped p a (record { 0 = t.address.0 + 0 }))
