-- document 00, demand 2: the bytes of a job's segments, and a job's mapped bytes
use Rattle.std.specs.Prelude.{ℕ, ◌+◌, List, [], ◌∷◌, ◌++◌, Some, None}
use Rattle.std.specs.declared.option.Option.{Option}
use Rattle.memory.specs.declared.Task.{Task}
use Rattle.plan.specs.declared.records.Plan.{Plan}
use Rattle.arith.specs.Listed.{listed}
use Rattle.segment.specs.Mapping.{mapped}
use Rattle.segment.specs.declared.FoundByte.{FoundByte}
use Rattle.segment.specs.declared.Segment.{Segment}

-- the physical addresses of a segment: its start, the next, .., as many as it is long
unfoldable pub bytes_of : Segment → List ℕ
bytes_of s = listed (λ x. x) s.start.0 s.length

-- those of all segments, one behind the other
unfoldable pub joined : List Segment → List ℕ
joined [] = []
joined (s ∷ l) = bytes_of s ++ joined l

-- the physical address of a place that the lookup found
abbrev pub physical : Option FoundByte → ℕ
physical None = 0
physical (Some byte) = byte.address.0

-- "only the mapping turns the first into the second": the physical address of byte x of area a's job
unfoldable pub mapped_byte : Plan → ℕ → Task → ℕ → ℕ
mapped_byte p a t x = physical (mapped p a (record { 0 = t.address.0 + x }))

-- those of the job's bytes x, x + 1, .., x + n - 1
unfoldable pub mapped_bytes : Plan → ℕ → Task → ℕ → ℕ → List ℕ
mapped_bytes p a t x n = listed (mapped_byte p a t) x n
