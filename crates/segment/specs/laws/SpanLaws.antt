-- A job whose segments make one span lies on one device.
use Rattle.std.specs.Prelude.{ℕ, zero, suc, ◌+◌, ◌-◌, ◌≤◌, ◌<◌, ◌≡◌, refl, List, ◌∷◌, length}
use Rattle.std.proofs.Common.{sym, ◌∙◌, add_assoc, arith, eq-eqb}
use Rattle.arith.specs.Cases.{by_ltb, by_eqb}
use Rattle.memory.specs.declared.Task.{Task}
use Rattle.plan.specs.WellFormed.{WellFormed}
use Rattle.plan.specs.declared.records.Plan.{Plan}
use Rattle.segment.specs.laws.CutLaws.{Cut, at_start, at_end}
use Rattle.segment.specs.laws.MappingLaws.{place_inside}
use Rattle.segment.specs.laws.SegmentLaws.{Admitted, job_place, segment_is, segment_some, segments_next, segment_inside}
use Rattle.segment.specs.Segments.{segment_at, segments_from, spans_after, spans}
use Rattle.segment.specs.declared.Segment.{Segment}

-- no span behind those on device d: the next segment lies on it, and there is none behind that
none_after : (d : ℕ) (s : Segment) (l : List Segment) → length (spans_after d (s ∷ l)) ≡ 0 → (d ≡ s.device) × (length (spans_after d l) ≡ 0)
unfolding spans_after
none_after d s l h = by_eqb d s.device (λ e q. (q, rw e at h)) (λ e _. absurd (omega (arith, rw e at h)))

-- one span: none behind those on the device of the first segment
none_behind : (s : Segment) (l : List Segment) → length (spans (s ∷ l)) ≡ 1 → length (spans_after s.device (s ∷ l)) ≡ 0
unfolding spans spans_after
none_behind s l h = rw (eq-eqb s.device s.device refl) (omega arith)

module _ (p : Plan) (w : WellFormed p) (a : ℕ) (t : Task) (f : Admitted p a t) where
  -- a segment that the job is cut into lies on one device
  segment_on_device : {x : ℕ} → Cut (segment_at p a t) t x → x < t.length → (k : ℕ) → k < (segment_at p a t x).length →
      (segment_at p a t (x + k)).device ≡ (segment_at p a t x).device
  segment_on_device {x} c h k l =
      let (i, y, g) = job_place f x h in
      let inside = segment_inside p w a t f c h g in
      let g' = rw add_assoc at (place_inside p a k g (omega arith)) in
      rw (segment_is p a t x g, segment_is p a t (x + k) g')

  -- from a cut on, with no span behind those on device d; n bounds the bytes left
  on_device : (n x d : ℕ) → t.length - x ≤ n → Cut (segment_at p a t) t x → length (spans_after d (segments_from (segment_at p a t) t x)) ≡ 0 →
      (z : ℕ) → x ≤ z → z < t.length → (segment_at p a t z).device ≡ d
  on_device zero x d h c e z l m = absurd (omega arith)
  on_device (suc n) x d h c e z l m =
      let k : x < t.length = omega arith in
      let g : 1 ≤ (segment_at p a t x).length = segment_some p w a t f x k in
      let both = none_after d _ _ (rw (segments_next p w a t f x k) at e) in
      by_ltb z (x + (segment_at p a t x).length)
      (λ _ o.
      let q : x + (z - x) ≡ z = omega arith in
      rw q at (segment_on_device c k (z - x) (omega arith)) ∙ sym both.0)
      (λ _ o. on_device n (x + (segment_at p a t x).length) d (omega arith) (at_end c k) both.1 z o m)

  -- one span: every byte of the job is on the device of the first
  pub one_device : length (spans (segments_from (segment_at p a t) t 0)) ≡ 1 → (x : ℕ) → x < t.length →
      (segment_at p a t x).device ≡ (segment_at p a t 0).device
  one_device e x h =
      let q = segments_next p w a t f 0 f.length_some in
      on_device t.length 0 _ (omega arith) at_start (rw q (none_behind _ _ (rw q at e))) x (omega arith) h
