-- document 00, demand 3: the figures of a job. They are the definitions that demand 3 uses, with the counts of segments and stretches.
use Rattle.std.specs.Prelude.{ℕ, Bool, true, false, List, [], ◌∷◌, length}
use Rattle.std.specs.Option.{unwrap_or}
use Rattle.std.specs.declared.option.Option.{Option}
use Rattle.arith.specs.Cases.{pick}
use Rattle.memory.specs.declared.Task.{Task}
use Rattle.plan.specs.WellFormed.{WellFormed}
use Rattle.plan.specs.declared.records.Plan.{Plan}
use Rattle.rules.specs.Layout.{layout_of, most_below}
use Rattle.segment.specs.Segments.{is_lock, segment_at, segments_from, spans, own_bound, below_bound}
use Rattle.segment.specs.declared.Segment.{Segment}
use Rattle.segment.specs.laws.SegmentLaws.{Admitted}
use Rattle.figures.specs.declared.Bounds.{Bounds}

-- an admitted job of an accepted plan
pub record Audited (p : Plan) (a : ℕ) (t : Task) : Type 0 where
  pub plan : WellFormed p
  pub job : Admitted p a t

-- a job's segments and the devices of its stretches: "a lock request has one stretch and no piece"
abbrev pub segments_of : Plan → ℕ → Task → List Segment
segments_of p a t = pick (is_lock t.kind) [] (segments_from (segment_at p a t) t 0)

abbrev pub spans_of : Plan → ℕ → Task → List ℕ
spans_of p a t = pick (is_lock t.kind) ((segment_at p a t 0).device ∷ []) (spans (segments_from (segment_at p a t) t 0))

-- the two bounds of demand 3 (`own_most`, `below_most`), and both counts
unfoldable pub bounds_of : Plan → ℕ → Task → Bounds
bounds_of p a t =
    record {
      own = own_bound (layout_of p).limit ((layout_of p).segment a t) t;
      below = below_bound (most_below (layout_of p)) ((layout_of p).segment a t) t;
      segments = length (segments_of p a t);
      spans = length (spans_of p a t);
    }

-- the number of the last stretch's device; before the first stretch it is 256, which no device has
abbrev pub device_or_none : Option ℕ → ℕ
device_or_none last = unwrap_or last 256

-- document 02, 02: "twice (patience less one) per stretch" on chips that can pause
abbrev pub factor_of : Bool → ℕ
factor_of true = 2
factor_of false = 1
