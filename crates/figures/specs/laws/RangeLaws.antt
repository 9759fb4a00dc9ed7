-- The ranges of a job, one segment at a time.
use Rattle.std.specs.Prelude.{ℕ, ◌+◌, ◌≤◌, ◌<◌, true, false, ◌∷◌, ◌≡◌}
use Rattle.std.proofs.Math.Path.{refl}
use Rattle.std.proofs.Common.{eqb, eqb-true}
use Rattle.arith.specs.Cases.{and_elim}
use Rattle.memory.specs.declared.Task.{Task}
use Rattle.plan.specs.declared.records.Plan.{Plan}
use Rattle.segment.specs.Segments.{segment_at, segments_from}
use Rattle.segment.specs.declared.Segment.{Segment}
use Rattle.segment.specs.laws.CutLaws.{Cut, segments_end}
use Rattle.figures.specs.Figures.{Audited}
use Rattle.figures.specs.Ranges.{range_of, adjoins, with_segment, ranges_after, ranges_of}
use Rattle.figures.specs.declared.Range.{Range}
use Rattle.figures.specs.laws.BoundLaws.{next_segments}

-- a segment that belongs to a range begins at its end
pub adjoins_end : (r : Range) (s : Segment) → adjoins r s ≡ true → r.start + r.length ≡ s.start.0
adjoins_end r s e = eqb-true _ _ (and_elim (eqb r.device s.device) _ e).1

module _ (p : Plan) (a : ℕ) (t : Task) (f : Audited p a t) (x : ℕ) (c : Cut (segment_at p a t) t x) (h : x < t.length) (s : Segment) (is : s ≡ segment_at p a t x) where
  pub range_first : ranges_of (segments_from (segment_at p a t) t x) ≡ ranges_after (range_of s) (segments_from (segment_at p a t) t (x + s.length))
  unfolding ranges_of
  range_first = rw (next_segments p a t f x c h s is)

  -- the segment belongs to the range
  pub range_more : (r : Range) → adjoins r s ≡ true →
      ranges_after r (segments_from (segment_at p a t) t x) ≡ ranges_after (with_segment r s) (segments_from (segment_at p a t) t (x + s.length))
  unfolding ranges_after
  range_more r e = rw (next_segments p a t f x c h s is, e) refl

  -- it does not
  pub range_ends : (r : Range) → adjoins r s ≡ false →
      ranges_after r (segments_from (segment_at p a t) t x) ≡ r ∷ ranges_of (segments_from (segment_at p a t) t x)
  unfolding ranges_after ranges_of
  range_ends r e = rw (next_segments p a t f x c h s is, e) refl

-- there is no segment left
pub range_last : (p : Plan) (a : ℕ) (t : Task) (x : ℕ) (r : Range) → t.length ≤ x →
    ranges_after r (segments_from (segment_at p a t) t x) ≡ r ∷ ranges_of (segments_from (segment_at p a t) t x)
unfolding ranges_after ranges_of
range_last p a t x r h = rw (segments_end (segment_at p a t) t x h)
