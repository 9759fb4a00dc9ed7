-- document 01, "The mapping and the pieces": how a job is cut. A piece is a segment here, a stretch a device span.
use Rattle.std.specs.Prelude.{ℕ, zero, suc, ◌+◌, ◌-◌, ◌*◌, min, Bool, true, false, ◌&&◌, List, [], ◌∷◌, Some, None, leb, eqb}
use Rattle.std.specs.declared.option.Option.{Option}
use Rattle.arith.specs.Cases.{pick}
use Rattle.arith.specs.Multiples.{multiple}
use Rattle.memory.specs.declared.JobType.{JobType}
use Rattle.memory.specs.declared.JobType.TheVariants.{NoJob, Write, Read, Compare, Erase, BlankCheck, Lock}
use Rattle.memory.specs.declared.Task.{Task}
use Rattle.plan.specs.Questions.{sub_area_of, size_of}
use Rattle.plan.specs.declared.records.Granularity.{Granularity}
use Rattle.plan.specs.declared.records.Plan.{Plan}
use Rattle.plan.specs.declared.records.SubAreaRecord.{SubAreaRecord}
use Rattle.segment.specs.Mapping.{mapped}
use Rattle.segment.specs.declared.FoundByte.{FoundByte}
use Rattle.segment.specs.declared.Segment.{Segment}

abbrev pub is_lock : JobType → Bool
is_lock Lock = true
is_lock NoJob = false
is_lock Write = false
is_lock Read = false
is_lock Compare = false
is_lock Erase = false
is_lock BlankCheck = false

abbrev pub is_erase : JobType → Bool
is_erase Erase = true
is_erase NoJob = false
is_erase Write = false
is_erase Read = false
is_erase Compare = false
is_erase BlankCheck = false
is_erase Lock = false

-- "The unit of an operation is sector, page or smallest read." A lock request needs no unit: every byte will do.
abbrev pub unit_of : JobType → SubAreaRecord → ℕ
unit_of Erase s = s.erase.unit
unit_of Write s = s.write.unit
unit_of Read s = s.read.unit
unit_of Compare s = s.read.unit
unit_of BlankCheck s = s.read.unit
unit_of Lock s = 1
unit_of NoJob s = 1

-- "Retries per piece, a constant table: write and erase use the sub-area's two numbers, the others 0."
abbrev pub retries_of : JobType → SubAreaRecord → ℕ
retries_of Write s = s.write_retries
retries_of Erase s = s.erase_retries
retries_of Read s = 0
retries_of Compare s = 0
retries_of BlankCheck s = 0
retries_of Lock s = 0
retries_of NoJob s = 0

-- "a sector burst if p is a multiple of it and n is at least it, else one sector"
unfoldable pub burst_or_unit : Granularity → ℕ → ℕ → ℕ
burst_or_unit g p n = pick (multiple g.burst p && leb g.burst n) g.burst g.unit

-- "At physical address p with n job bytes left in this sub-area, the next piece is": erase and write a burst or a unit;
-- "read, compare, blank check: n or the largest read, the smaller". Of a lock request it is all n bytes.
abbrev pub segment_length : JobType → SubAreaRecord → ℕ → ℕ → ℕ
segment_length Erase s p n = burst_or_unit s.erase p n
segment_length Write s p n = burst_or_unit s.write p n
segment_length Read s p n = min n s.read.burst
segment_length Compare s p n = min n s.read.burst
segment_length BlankCheck s p n = min n s.read.burst
segment_length Lock s p n = n
segment_length NoJob s p n = n

-- the segment at offset y of sub-area i, with r bytes of the job left. By sub-area and sector the wear is counted (document 02, 05).
abbrev pub segment_in : JobType → ℕ → SubAreaRecord → ℕ → ℕ → Segment
segment_in k i s y r =
    record {
      start = record { 0 = s.start + y };
      length = segment_length k s (s.start + y) (min r (size_of s - y));
      device = s.device;
      retries = retries_of k s;
      sub_area = i;
      sector = s.erase.unit;
    }

abbrev pub no_segment : Segment
no_segment = record { start = record { 0 = 0 }; length = 0; device = 0; retries = 0; sub_area = 0; sector = 0 }

abbrev pub segment_of : JobType → List SubAreaRecord → ℕ → Option FoundByte → Segment
segment_of k l r None = no_segment
segment_of k l r (Some byte) = segment_in k byte.sub_area (sub_area_of l byte.sub_area) byte.offset r

-- the segment of area a's job that is due once x bytes are processed
unfoldable pub segment_at : Plan → ℕ → Task → ℕ → Segment
segment_at p a t x = segment_of t.kind p.sub_areas (t.length - x) (mapped p a (record { 0 = t.address.0 + x }))

-- A job is cut by `next`, the segment due at a processed length.
-- The segments from x on, n bytes being left; there are at most as many as bytes.
unfoldable pub cut : ℕ → (ℕ → Segment) → ℕ → ℕ → List Segment
cut zero next n x = []
cut (suc most) next zero x = []
cut (suc most) next (suc n) x = next x ∷ cut most next (suc n - (next x).length) (x + (next x).length)

unfoldable pub segments_from : (ℕ → Segment) → Task → ℕ → List Segment
segments_from next t x = cut (t.length - x) next (t.length - x) x

-- "A stretch is a longest run of consecutive pieces on one device": the devices of the spans
unfoldable pub spans_after : ℕ → List Segment → List ℕ
spans_after d [] = []
spans_after d (s ∷ l) = pick (eqb d s.device) (spans_after d l) (s.device ∷ spans_after s.device l)

unfoldable pub spans : List Segment → List ℕ
spans [] = []
spans (s ∷ l) = s.device ∷ spans_after s.device l

-- "Own is at most patience times (retries + 1), summed over the job's pieces."
unfoldable pub own_sum : (ℕ → ℕ) → List Segment → ℕ
own_sum limit [] = 0
own_sum limit (s ∷ l) = limit s.device * (s.retries + 1) + own_sum limit l

-- "Below is at most patience less one"; document 02, 02: on chips that can pause, twice that. Of a span on a device with this limit
abbrev pub span_most : Bool → ℕ → ℕ
span_most true limit = 2 * (limit - 1)
span_most false limit = limit - 1

-- "summed over its stretches on one chip": most is that of a span on a device
unfoldable pub below_sum : (ℕ → ℕ) → List ℕ → ℕ
below_sum most [] = 0
below_sum most (d ∷ l) = most d + below_sum most l

-- "a lock request has one stretch and no piece"
unfoldable pub own_bound : (ℕ → ℕ) → (ℕ → Segment) → Task → ℕ
own_bound limit next t = pick (is_lock t.kind) 0 (own_sum limit (segments_from next t 0))

unfoldable pub below_bound : (ℕ → ℕ) → (ℕ → Segment) → Task → ℕ
below_bound most next t = below_sum most (pick (is_lock t.kind) ((next 0).device ∷ []) (spans (segments_from next t 0)))
