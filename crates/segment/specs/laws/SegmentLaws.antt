-- The segments of an admitted job of an accepted plan.
use Rattle.std.specs.Prelude.{ℕ, ◌+◌, ◌-◌, ◌≤◌, ◌<◌, min, ◌≡◌, refl, ◌∷◌}
use Rattle.std.specs.Int.{◌∣◌}
use Rattle.std.proofs.Math.Nat.{dvd-add, dvd-sub, dvd-zero, dvd-add_iff_right, min-eq_left, min-eq_right}
use Rattle.std.proofs.Common.{add-zero, add_assoc, arith}
use Rattle.arith.specs.Cases.{by_ltb, by_leb}
use Rattle.memory.specs.declared.Task.{Task}
use Rattle.plan.specs.Questions.{device_of, area_of, sub_area_of, device_end, size_of, end_of, area_size}
use Rattle.plan.specs.WellFormed.{WellFormed}
use Rattle.plan.specs.declared.records.Plan.{Plan}
use Rattle.segment.specs.laws.CutLaws.{Cut, at_start, at_end, cut_next}
use Rattle.segment.specs.laws.LengthLaws.{WholeUnits, length_some, length_whole, unit_of_size, unit_of_start}
use Rattle.segment.specs.laws.MappingLaws.{Place, one_place, place_of, place_mapped, place_inside, place_next}
use Rattle.segment.specs.Segments.{unit_of, retries_of, segment_in, segment_at, segments_from}
use Rattle.segment.specs.declared.Segment.{Segment}

-- What acceptance of a job means for its range, as plain facts: questions 10, 12 and 13. Of a lock request the unit is 1.
pub record Admitted (p : Plan) (a : ℕ) (t : Task) : Type 0 where
  pub known : a < p.area_count
  pub length_some : 1 ≤ t.length
  pub after_start : (area_of p.areas a).start.0 ≤ t.address.0
  pub before_end : t.address.0 + t.length ≤ (area_of p.areas a).start.0 + area_size p.sub_areas p.sub_area_count a
  pub starts_on_unit_lem : (i y : ℕ) → Place p a t.address.0 i y → unit_of t.kind (sub_area_of p.sub_areas i) ∣ y
  pub ends_on_unit_lem : (i y : ℕ) → Place p a (t.address.0 + t.length - 1) i y → unit_of t.kind (sub_area_of p.sub_areas i) ∣ y + 1

-- byte x of the job lies on a unit of its sub-area
abbrev pub OnUnit : Plan → ℕ → Task → ℕ → Type 0
OnUnit p a t x = (i y : ℕ) → Place p a (t.address.0 + x) i y → unit_of t.kind (sub_area_of p.sub_areas i) ∣ y

-- A segment of area a's job, with so many bytes left: in one sub-area of the area and on its device, in whole units.
pub record Good (p : Plan) (a : ℕ) (t : Task) (s : Segment) (left : ℕ) : Type 0 where
  pub sub_area : ℕ
  pub known : sub_area < p.sub_area_count
  pub sub_area_is : s.sub_area ≡ sub_area
  pub of_area : (sub_area_of p.sub_areas sub_area).area ≡ a
  pub device_is : s.device ≡ (sub_area_of p.sub_areas sub_area).device
  pub after_start : (sub_area_of p.sub_areas sub_area).start ≤ s.start.0
  pub before_end : s.start.0 + s.length ≤ end_of (sub_area_of p.sub_areas sub_area)
  pub after_device_start : (device_of p.devices s.device).start ≤ s.start.0
  pub before_device_end : s.start.0 + s.length ≤ device_end (device_of p.devices s.device)
  pub length_some : 1 ≤ s.length
  pub start_of_unit : unit_of t.kind (sub_area_of p.sub_areas sub_area) ∣ s.start.0
  pub length_of_unit : unit_of t.kind (sub_area_of p.sub_areas sub_area) ∣ s.length
  pub length_most : s.length ≤ left
  pub retries_are : s.retries ≡ retries_of t.kind (sub_area_of p.sub_areas sub_area)

-- the segment at a byte of the job is the one at its place
pub segment_is : (p : Plan) (a : ℕ) (t : Task) (x : ℕ) {i y : ℕ} → Place p a (t.address.0 + x) i y →
    segment_at p a t x ≡ segment_in t.kind i (sub_area_of p.sub_areas i) y (t.length - x)
unfolding segment_at
segment_is p a t x h = rw (place_mapped p a h)

-- every byte of an admitted job has a place
pub job_place : {p : Plan} {a : ℕ} {t : Task} → Admitted p a t → (x : ℕ) → x < t.length → (i : ℕ) × (y : ℕ) × Place p a (t.address.0 + x) i y
job_place {p} {a} {t} f x h = place_of p a (t.address.0 + x) (omega arith) (omega arith)

module _ (p : Plan) (w : WellFormed p) (a : ℕ) (t : Task) (f : Admitted p a t) where
  -- from every byte on, on a unit or not, a segment is at least one byte
  pub segment_some : (x : ℕ) → x < t.length → 1 ≤ (segment_at p a t x).length
  segment_some x h =
      let (i, y, g) = job_place f x h in
      rw (segment_is p a t x g) (length_some p w i g.known t.kind _ _ (omega arith))

  -- the segments from any byte on: the one there, and those from its end on
  pub segments_next : (x : ℕ) → x < t.length →
      segments_from (segment_at p a t) t x ≡ segment_at p a t x ∷ segments_from (segment_at p a t) t (x + (segment_at p a t x).length)
  segments_next = cut_next (segment_at p a t) t segment_some

  -- a segment is on a device of the plan
  pub segment_device : (x : ℕ) → x < t.length → (segment_at p a t x).device < p.device_count
  segment_device x h =
      let (i, y, g) = job_place f x h in
      rw (segment_is p a t x g) (w.device_known i g.known)

  module _ (x : ℕ) (h : x < t.length) (i y : ℕ) (g : Place p a (t.address.0 + x) i y) (d : unit_of t.kind (sub_area_of p.sub_areas i) ∣ y) where
    -- the job bytes left in this sub-area are whole units
    left_whole : unit_of t.kind (sub_area_of p.sub_areas i) ∣ min (t.length - x) (size_of (sub_area_of p.sub_areas i) - y)
    left_whole =
        by_leb (t.length - x) (size_of (sub_area_of p.sub_areas i) - y)
        (λ _ l.
        let e : t.address.0 + x + (t.length - x - 1) ≡ t.address.0 + t.length - 1 = omega arith in
        let q : y + (t.length - x - 1) + 1 ≡ y + (t.length - x) = omega arith in
        let last = rw e at (place_inside p a (t.length - x - 1) g (omega arith)) in
        rw (min-eq_left l) ((dvd-add_iff_right _ d).1 (rw q at (f.ends_on_unit_lem i _ last))))
        (λ _ l.
        let m : size_of (sub_area_of p.sub_areas i) - y ≤ t.length - x = omega arith in
        rw (min-eq_right m) (dvd-sub _ (unit_of_size p w i g.known t.kind) d))

    -- so the segment here is whole units of them
    whole_here : WholeUnits (unit_of t.kind (sub_area_of p.sub_areas i)) (min (t.length - x) (size_of (sub_area_of p.sub_areas i) - y))
        (segment_in t.kind i (sub_area_of p.sub_areas i) y (t.length - x)).length
    whole_here = length_whole p w i g.known t.kind _ _ (omega arith) left_whole

    -- and good
    good_here : Good p a t (segment_in t.kind i (sub_area_of p.sub_areas i) y (t.length - x)) (t.length - x)
    good_here =
        let whole = whole_here in
        record {
          sub_area = i;
          known = g.known;
          sub_area_is = refl;
          of_area = g.of_area;
          device_is = refl;
          after_start = omega arith;
          before_end = omega arith;
          after_device_start = omega (arith, w.after_device_start i g.known);
          before_device_end = omega (arith, w.before_device_end i g.known);
          length_some = whole.some;
          start_of_unit = dvd-add _ (unit_of_start p w i g.known t.kind) d;
          length_of_unit = whole.of_unit;
          length_most = omega arith;
          retries_are = refl;
        }

  -- from a byte on a unit, a segment ends on a unit, perhaps of the next sub-area
  next_on_unit : (x : ℕ) → x < t.length → OnUnit p a t x → OnUnit p a t (x + (segment_at p a t x).length)
  next_on_unit x h on j z k =
      let (i, y, g) = job_place f x h in
      let whole = whole_here x h i y g (on i y g) in
      let k' = rw (segment_is p a t x g, ← add_assoc) at k in
      by_ltb (y + (segment_in t.kind i (sub_area_of p.sub_areas i) y (t.length - x)).length) (size_of (sub_area_of p.sub_areas i))
      (λ _ l.
      let e = one_place p a (place_inside p a _ g l) k' in
      rw (← e.0, ← e.1) (dvd-add _ (on i y g) whole.of_unit))
      (λ _ l. rw (place_next p a _ g (omega arith) k') (dvd-zero _))

  -- every place where the job is cut is on a unit
  pub cut_on_unit : {x : ℕ} → Cut (segment_at p a t) t x → OnUnit p a t x
  cut_on_unit at_start = λ i y g. f.starts_on_unit_lem i y (rw add-zero at g)
  cut_on_unit (at_end {x} c h) = next_on_unit x h (cut_on_unit c)

  -- every segment that the job is cut into is good
  pub segment_good : {x : ℕ} → Cut (segment_at p a t) t x → x < t.length → Good p a t (segment_at p a t x) (t.length - x)
  segment_good {x} c h =
      let (i, y, g) = job_place f x h in
      rw (segment_is p a t x g) (good_here x h i y g (cut_on_unit c i y g))

  -- and ends in the sub-area that it begins in
  pub segment_inside : {x i y : ℕ} → Cut (segment_at p a t) t x → x < t.length → Place p a (t.address.0 + x) i y →
      y + (segment_at p a t x).length ≤ size_of (sub_area_of p.sub_areas i)
  segment_inside {x} {i} {y} c h g =
      rw (segment_is p a t x g) (omega (arith, (whole_here x h i y g (cut_on_unit c i y g)).most))
