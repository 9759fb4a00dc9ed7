-- Question 15 by the turns of the code's loop: the parts of a lock's range, one behind the other.
use Rattle.std.specs.Prelude.{ℕ, suc, ◌+◌, ◌-◌, ◌≤◌, ◌<◌, min, true, false, ◌∷◌, ◌≡◌, eqb, length}
use Rattle.std.proofs.Common.{sym, ap, ◌∙◌}
use native.Mathlib.Omega.{arith}
use borrow.Author.Tests.{eq-eqb, ne_eqb}
use Rattle.arith.specs.Plain.{plain}
use Rattle.memory.specs.declared.JobType.{JobType}
use Rattle.memory.specs.declared.JobType.TheVariants.{Lock}
use Rattle.memory.specs.declared.LogicalAddress.{LogicalAddress}
use Rattle.memory.specs.declared.Task.{Task}
use Rattle.plan.specs.Questions.{area_of, area_size, sub_area_of, size_of}
use Rattle.plan.specs.declared.records.Plan.{Plan}
use Rattle.plan.specs.declared.records.SubAreaRecord.{SubAreaRecord}
use Rattle.rules.specs.Admission.{is_inside, lock_task, on_one_device}
use Rattle.segment.specs.laws.CutLaws.{segments_end, cut_next}
use Rattle.segment.specs.laws.MappingLaws.{place_of}
use Rattle.segment.specs.laws.SegmentLaws.{segment_is}
use Rattle.segment.specs.declared.Segment.{Segment}
use Rattle.segment.specs.Segments.{segment_length, segment_at, segments_from, spans, spans_after}

-- a part of a lock's range is all that is left of it in the sub-area
lock_length : (k : JobType) → k ≡ Lock → (s : SubAreaRecord) (q n : ℕ) → segment_length k s q n ≡ n
lock_length k e s q n = rw e

-- how many device spans of task t follow from x on, behind one on device d
unfoldable pub further_spans : Plan → ℕ → Task → ℕ → ℕ → ℕ
further_spans p a t d x = length (spans_after d (segments_from (segment_at p a t) t x))

module _ (p : Plan) (a : ℕ) (t : Task) (lock : t.kind ≡ Lock) (inside : is_inside p a t.address t.length ≡ true) where
  range : (1 ≤ t.length) × (((area_of p.areas a).start.0 ≤ t.address.0)
      × (t.address.0 + t.length ≤ (area_of p.areas a).start.0 + area_size p.sub_areas p.sub_area_count a))
  unfolding is_inside
  range = simp plain at inside

  -- every part has a byte, and ends within the range
  pub part_length : (x : ℕ) → x < t.length → (1 ≤ (segment_at p a t x).length) × (x + (segment_at p a t x).length ≤ t.length)
  part_length x h =
      let r = range in
      let (i, y, place) = place_of p a (t.address.0 + x) (omega arith) (omega arith) in
      let s = sub_area_of p.sub_areas i in
      let e = lock_length t.kind lock s (s.start + y) (min (t.length - x) (size_of s - y)) in
      rw (segment_is p a t x place) (omega (arith, e, place.inside), omega (arith, e))

  parts_next : (x : ℕ) → x < t.length →
      segments_from (segment_at p a t) t x ≡ segment_at p a t x ∷ segments_from (segment_at p a t) t (x + (segment_at p a t x).length)
  parts_next = cut_next (segment_at p a t) t (λ x h. (part_length x h).0)

  -- the range is on one device if no span follows that of its first part
  module _ (address : LogicalAddress) (n : ℕ) (e : t ≡ lock_task address n) where
    one_device : on_one_device p a address n ≡ eqb (suc (further_spans p a t (segment_at p a t 0).device (segment_at p a t 0).length)) 1
    unfolding on_one_device spans further_spans
    one_device =
        let r = range in
        let z : 0 + (segment_at p a t 0).length ≡ (segment_at p a t 0).length = omega arith in
        rw (← e, parts_next 0 (omega arith), z)

    pub one_device_yes : further_spans p a t (segment_at p a t 0).device (segment_at p a t 0).length ≡ 0 → true ≡ on_one_device p a address n
    one_device_yes h = sym (one_device ∙ rw h)

    pub one_device_no : 1 ≤ further_spans p a t (segment_at p a t 0).device (segment_at p a t 0).length → false ≡ on_one_device p a address n
    one_device_no h =
        sym (one_device ∙ ne_eqb (suc (further_spans p a t (segment_at p a t 0).device (segment_at p a t 0).length)) 1 (λ q. omega arith))

  module _ (d x : ℕ) (h : x < t.length) where
    -- a part on the same device adds none
    pub spans_same : (segment_at p a t x).device ≡ d → further_spans p a t d x ≡ further_spans p a t d (x + (segment_at p a t x).length)
    unfolding further_spans spans_after
    spans_same e = rw (parts_next x h, eq-eqb d (segment_at p a t x).device (omega arith))

    -- one on another device adds one
    pub spans_more : ((segment_at p a t x).device ≡ d → ⊥) → 1 ≤ further_spans p a t d x
    unfolding further_spans spans_after
    spans_more e = rw (parts_next x h, ne_eqb d (segment_at p a t x).device (λ q. e (omega arith))) (omega arith)

-- behind the range there is none
pub spans_none : (p : Plan) (a : ℕ) (t : Task) (d x : ℕ) → t.length ≤ x → further_spans p a t d x ≡ 0
unfolding further_spans spans_after
spans_none p a t d x h = rw (segments_end (segment_at p a t) t x h)

-- the same of the code's turns: t is the lock of a range inside its area
module _ (p : Plan) (a : ℕ) (t : Task) (address : LogicalAddress) (n : ℕ) (e : t ≡ lock_task address n) (inside : is_inside p a address n ≡ true) where
  lock : t.kind ≡ Lock
  lock = ap (λ (k : Task). k.kind) e

  long : t.length ≡ n
  long = ap (λ (k : Task). k.length) e

  within : is_inside p a t.address t.length ≡ true
  within = rw e inside

  -- the part at x has a byte, and ends within the range
  pub part_in : (x : ℕ) → x < n → (s : Segment) → s ≡ segment_at p a t x → (1 ≤ s.length) × (x + s.length ≤ n)
  part_in x h s is =
      let part = part_length p a t lock within x (omega (arith, long, h)) in
      let l = ap (λ (r : Segment). r.length) is in
      (omega (arith, l, part.0), omega (arith, l, long, part.1))

  -- on device d, it adds no span
  pub part_same : (d x : ℕ) → x < n → (s : Segment) → s ≡ segment_at p a t x → s.device ≡ d →
      further_spans p a t d (x + s.length) ≡ further_spans p a t d x
  part_same d x h s is on =
      ap (λ (r : Segment). further_spans p a t d (x + r.length)) is
      ∙ sym (spans_same p a t lock within d x (omega (arith, long, h)) (ap (λ (r : Segment). r.device) (sym is) ∙ on))

  -- with the first part, where no span was added up to x
  module _ (first : Segment) (is : first ≡ segment_at p a t 0) (x : ℕ)
      (same : further_spans p a t first.device x ≡ further_spans p a t first.device first.length) where
    from_first : further_spans p a t first.device first.length ≡ further_spans p a t (segment_at p a t 0).device (segment_at p a t 0).length
    from_first = ap (λ (s : Segment). further_spans p a t s.device s.length) is

    -- the part at x is on another device
    pub part_other : x < n → (s : Segment) → s ≡ segment_at p a t x → (s.device ≡ first.device → ⊥) → false ≡ on_one_device p a address n
    part_other h s at off =
        let more = spans_more p a t lock within first.device x (omega (arith, long, h)) (λ q. off (ap (λ (r : Segment). r.device) at ∙ q)) in
        one_device_no p a t lock within address n e (omega (arith, more, same, from_first))

    -- the range ends at x
    pub parts_end : n ≤ x → true ≡ on_one_device p a address n
    parts_end h = one_device_yes p a t lock within address n e (omega (arith, spans_none p a t first.device x (omega (arith, long, h)), same, from_first))
