-- What the machine asks of a plan.
use Rattle.std.specs.Prelude.{ℕ, Bool}
use Rattle.memory.specs.declared.Task.{Task}
use Rattle.plan.specs.Questions.{area_of, device_of}
use Rattle.plan.specs.declared.records.Plan.{Plan}
use Rattle.segment.specs.Segments.{span_most, segment_at}
use Rattle.segment.specs.declared.Segment.{Segment}
use Rattle.rules.specs.Ranks.{ranks_above}

pub record Layout : Type 0 where
  pub areas : ℕ
  pub devices : ℕ
  -- document 01: patience
  pub limit : ℕ → ℕ
  -- document 02, 02: the chip can pause
  pub suspends : ℕ → Bool
  pub outranks : ℕ → ℕ → Bool
  -- the segment of an area's task that is due at a processed length
  pub segment : ℕ → Task → ℕ → Segment

abbrev pub priority_of : Plan → ℕ → ℕ
priority_of p a = (area_of p.areas a).priority

-- what a plan says by itself: of two areas with one priority none is above the other
unfoldable pub layout_of : Plan → Layout
layout_of p =
    record {
      areas = p.area_count;
      devices = p.device_count;
      limit = λ d. (device_of p.devices d).poll_limit;
      suspends = λ d. (device_of p.devices d).suspends;
      outranks = ranks_above (priority_of p) (λ a. 0);
      segment = segment_at p;
    }

-- the most rounds that lower requests can stand before a span on device d
abbrev pub most_below : Layout → ℕ → ℕ
most_below p d = span_most (p.suspends d) (p.limit d)

-- the same with another rank
abbrev pub ranked : (ℕ → ℕ → Bool) → Layout → Layout
ranked r p = record { areas = p.areas; devices = p.devices; limit = p.limit; suspends = p.suspends; outranks = r; segment = p.segment }

-- with the rank of a moment, when the areas have these ages
abbrev pub layout_at : Plan → (ℕ → ℕ) → Layout
layout_at p ages = ranked (ranks_above (priority_of p) ages) (layout_of p)
