-- document 00, demand 2: "Each job is cut [..] by the rules of document 01", said of the plan's own records
use Rattle.std.specs.Prelude.{ℕ, ◌+◌, ◌-◌, ◌≤◌, min, List, [], ◌∷◌, Some, ◌≢◌, ◌⊎◌, ◌≡◌}
use Rattle.std.specs.Int.{◌∣◌}
use Rattle.memory.specs.declared.JobType.TheVariants.{Write, Read, Compare, Erase, BlankCheck}
use Rattle.memory.specs.declared.MemAddress.{MemAddress}
use Rattle.memory.specs.declared.Task.{Task}
use Rattle.plan.specs.Questions.{sub_area_of, size_of}
use Rattle.plan.specs.declared.records.Granularity.{Granularity}
use Rattle.plan.specs.declared.records.Plan.{Plan}
use Rattle.plan.specs.declared.records.SubAreaRecord.{SubAreaRecord}
use Rattle.segment.specs.Mapping.{mapped}
use Rattle.segment.specs.declared.Segment.{Segment}

-- "only the mapping turns the first into the second": byte x of area a's task has a place in a sub-area, and there a physical address
pub record HasPlace (p : Plan) (a : ℕ) (t : Task) (x : ℕ) : Type 0 where
  pub sub_area : ℕ
  pub offset : ℕ
  pub physical : MemAddress
  pub found : mapped p a (record { 0 = t.address.0 + x }) ≡ Some (record { sub_area = sub_area; offset = offset; address = physical })

-- the record of that sub-area
abbrev pub record_at : {p : Plan} {a : ℕ} {t : Task} {x : ℕ} → HasPlace p a t x → SubAreaRecord
record_at {p} place = sub_area_of p.sub_areas place.sub_area

-- "Retries per piece, a constant table: write and erase use the sub-area's two numbers, the others 0.": n is the number for the piece that
-- begins with byte x
pub record PieceRetries (p : Plan) (a : ℕ) (t : Task) (x n : ℕ) : Type 0 where
  pub place : HasPlace p a t x
  pub write : t.kind ≡ Write → n ≡ (record_at place).write_retries
  pub erase : t.kind ≡ Erase → n ≡ (record_at place).erase_retries
  pub others : t.kind ≢ Write → t.kind ≢ Erase → n ≡ 0

-- "a sector burst if p is a multiple of it and n is at least it, else one sector": for any unit and burst
pub record BurstOrUnit (g : Granularity) (physical left length : ℕ) : Type 0 where
  pub burst : (g.burst ∣ physical) × (g.burst ≤ left) → length ≡ g.burst
  pub unit : ((g.burst ∣ physical) × (g.burst ≤ left) → ⊥) → length ≡ g.unit

-- "At physical address p with n job bytes left in this sub-area, the next piece is": of a job of one of the five types, at its byte x
pub record PieceAt (p : Plan) (a : ℕ) (t : Task) (x : ℕ) (s : Segment) : Type 0 where
  pub place : HasPlace p a t x
  -- "each in one sub-area"
  pub device : s.device ≡ (record_at place).device
  pub start : s.start.0 ≡ (record_at place).start + place.offset
  pub left : ℕ
  pub left_is : left ≡ min (t.length - x) (size_of (record_at place) - place.offset)
  pub erase : t.kind ≡ Erase → BurstOrUnit (record_at place).erase s.start.0 left s.length
  -- "write: the same with page burst and page"
  pub write : t.kind ≡ Write → BurstOrUnit (record_at place).write s.start.0 left s.length
  -- "read, compare, blank check: n or the largest read, the smaller"
  pub read : (t.kind ≡ Read) ⊎ ((t.kind ≡ Compare) ⊎ (t.kind ≡ BlankCheck)) → s.length ≡ min left (record_at place).read.burst
  pub retries : PieceRetries p a t x s.retries

-- "A job is cut into pieces": from its byte x on, each where the last ended, to the job's end
abbrev pub PiecesFrom : Plan → ℕ → Task → ℕ → List Segment → Type 0
PiecesFrom p a t x [] = x ≡ t.length
PiecesFrom p a t x (s ∷ l) = PieceAt p a t x s × PiecesFrom p a t (x + s.length) l
