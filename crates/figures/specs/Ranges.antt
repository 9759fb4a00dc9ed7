-- The image bytes of a job as ranges: segments that follow each other on one device without a gap are one.
use Rattle.std.specs.Prelude.{ℕ, ◌+◌, ◌<◌, Bool, ◌&&◌, List, [], ◌∷◌, ◌⊎◌, ◌↔◌, ◌≡◌, eqb}
use Rattle.arith.specs.Cases.{pick}
use Rattle.memory.specs.declared.Task.{Task}
use Rattle.plan.specs.WellFormed.{Among}
use Rattle.plan.specs.declared.records.Plan.{Plan}
use Rattle.segment.specs.Bytes.{mapped_byte}
use Rattle.segment.specs.Segments.{segment_at, segments_from}
use Rattle.segment.specs.declared.Segment.{Segment}
use Rattle.figures.specs.Figures.{Audited}
use Rattle.figures.specs.declared.Range.{Range}

abbrev pub range_of : Segment → Range
range_of s = record { device = s.device; start = s.start.0; length = s.length }

-- the segment is on the range's device, and begins where the range ends
abbrev pub adjoins : Range → Segment → Bool
adjoins r s = eqb r.device s.device && eqb (r.start + r.length) s.start.0

abbrev pub with_segment : Range → Segment → Range
with_segment r s = record { device = r.device; start = r.start; length = r.length + s.length }

unfoldable pub ranges_after : Range → List Segment → List Range
ranges_after r [] = r ∷ []
ranges_after r (s ∷ l) = pick (adjoins r s) (ranges_after (with_segment r s) l) (r ∷ ranges_after (range_of s) l)

unfoldable pub ranges_of : List Segment → List Range
ranges_of [] = []
ranges_of (s ∷ l) = ranges_after (range_of s) l

-- byte x lies in one of the ranges
unfoldable pub Inside : List Range → ℕ → Type 0
Inside [] x = ⊥
Inside (r ∷ l) x = Among r.start r.length x ⊎ Inside l x

-- document 00: "Which bytes can an update job reach": a byte lies in a range of an admitted job exactly when it is a mapped byte of the job
abbrev pub RangesExact : Type 0
RangesExact = (p : Plan) (a : ℕ) (t : Task) → Audited p a t → (x : ℕ) →
    Inside (ranges_of (segments_from (segment_at p a t) t 0)) x ↔ ((k : ℕ) × (k < t.length) × (mapped_byte p a t k ≡ x))
