-- Cutting alone: the burst test over two lists, and the segments of a job one after the other.
use Rattle.std.specs.Prelude.{ℕ, ◌+◌, ◌-◌, ◌%◌, min, List, Some, None, ltb, length, get_or}
use Rattle.std.specs.declared.option.Option.{Option}
use Rattle.arith.specs.Bounded.{sum}
use Rattle.arith.specs.Cases.{pick}
use Rattle.arith.specs.Multiples.{multiple}
use Rattle.memory.specs.declared.Task.{Task}
use Rattle.plan.specs.Questions.{sub_area_of, size_of}
use Rattle.plan.specs.declared.records.Plan.{Plan}
use Rattle.plan.specs.declared.records.SubAreaRecord.{SubAreaRecord}
use Rattle.segment.specs.Segments.{segment_at}
use Rattle.segment.specs.declared.FoundByte.{FoundByte}
use Rattle.segment.specs.laws.Found.{segment_if}
use Rattle.loops.specs.Repeated.{total}

-- 1 where address i is a multiple of size i
abbrev pub multiple_at : List ℕ → List ℕ → ℕ → ℕ
multiple_at sizes addresses i = pick (multiple (get_or sizes i 0) (get_or addresses i 0)) 1 0

-- how many of the addresses are multiples of their sizes, as far as both lists go
unfoldable pub multiple_count : List ℕ → List ℕ → ℕ
multiple_count sizes addresses = sum (multiple_at sizes addresses) (min (length sizes) (length addresses))

-- what of n bytes is processed when the k bytes behind the first x are done: at the end the job begins anew
unfoldable pub processed_next : ℕ → ℕ → ℕ → ℕ
processed_next n x k = pick (ltb k (n - x)) (x + k) 0

-- what is processed when the segment of area 0's task that is due at x is done
abbrev pub next_cut : Plan → Task → ℕ → ℕ → ℕ
next_cut p t i x = processed_next t.length x (segment_at p 0 t x).length

-- segment by segment from 0 on: the sum of what is processed then
abbrev pub cut_total : Plan → Task → ℕ → ℕ
cut_total p t = total (next_cut p t) (next_cut p t) 0

-- where byte x of a sub-area lies
abbrev pub place_in : SubAreaRecord → ℕ → Option FoundByte
place_in s x = pick (ltb x (size_of s)) (Some (record { sub_area = 0; offset = x; address = record { 0 = s.start + x } })) None

-- the same of a task that begins with sub-area s
abbrev pub placed_cut : Task → ℕ → SubAreaRecord → ℕ
placed_cut t x s = processed_next t.length x (segment_if t.kind s (t.length - x) (place_in s x)).length

-- in the 32 records in turn
abbrev pub next_placed_cut : List SubAreaRecord → Task → ℕ → ℕ → ℕ
next_placed_cut l t i x = placed_cut t x (sub_area_of l (i % 32))

abbrev pub placed_total : List SubAreaRecord → Task → ℕ → ℕ
placed_total l t = total (next_placed_cut l t) (next_placed_cut l t) 0
