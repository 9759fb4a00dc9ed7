-- document 00, demand 2: "reads bring those bytes to the store and writes take them from it". The rounds in which requests of each area's latest
-- job were done, with the lent memory before and after: a definition over the plan and a run, beside the wait history.
use Rattle.std.specs.Prelude.{ℕ, ◌+◌, ◌≤◌, ◌<◌, List, [], ◌∷◌, ◌++◌, Some, None, ◌≡◌, eqb, length, get_or}
use Rattle.std.specs.declared.option.Option.{Option}
use Rattle.arith.specs.Cases.{pick}
use Rattle.arith.specs.Parts.{upd}
use Rattle.memory.specs.declared.JobType.TheVariants.{Write, Read, Compare, Erase, BlankCheck}
use Rattle.memory.specs.declared.Task.{Task}
use Rattle.plan.specs.Questions.{area_of, sub_area_of}
use Rattle.plan.specs.declared.records.Plan.{Plan}
use Rattle.plan.specs.declared.records.SubAreaRecord.{SubAreaRecord}
use Rattle.segment.specs.Bytes.{mapped_byte}
use Rattle.segment.specs.Mapping.{mapped}
use Rattle.segment.specs.declared.FoundByte.{FoundByte}
use Rattle.segment.specs.declared.Segment.{Segment}
use Rattle.rules.specs.History.{Call, submit, releases, cancels, asks, round, History}
use Rattle.rules.specs.Memory.{Memory, written_byte}
use Rattle.rules.specs.Round.{clears_only}
use Rattle.rules.specs.statements.Moments.{Moment, Run}
use Rattle.rules.specs.statements.Reach.{request_of}

-- a request that was done: the processed length at which it ran, and the lent memory before and after its round
pub record DoneRound : Type 0 where
  pub request : Segment
  pub from : ℕ
  pub before : Memory
  pub after : Memory

-- a round in which area a has one done request more
abbrev pub with_round : Plan → Moment → Call → Memory → ℕ → List DoneRound → List DoneRound
with_round p s k mem a l =
    pick (eqb (length ((s.next k).done a)) (length (s.now.done a))) l
    (l ++ (record { request = request_of p s.now.core a; from = (s.now.core.jobs a).processed; before = mem; after = s.memory k mem } ∷ []))

-- a call, before which each area's list is `l a`
unfoldable pub with_call : Plan → Moment → Call → (ℕ → List DoneRound) → ℕ → List DoneRound
with_call p s (submit a t) l = pick (eqb (s.number (submit a t)) 0) (upd l a []) l
with_call p s (releases a address n) l = l
with_call p s (cancels a) l = l
with_call p s (asks q) l = l
with_call p s (round answers mem) l = λ a. with_round p s (round answers mem) mem a (l a)

-- a list of calls of a run
unfoldable pub done_rounds : Plan → Run → List Call → (ℕ → List DoneRound) → ℕ → List DoneRound
done_rounds p r [] l = l
done_rounds p r (k ∷ cs) l = done_rounds p (λ ds. r (k ∷ ds)) cs (with_call p (r []) k l)

abbrev pub requests : List DoneRound → List Segment
requests [] = []
requests (e ∷ l) = e.request ∷ requests l

-- "joined in order": the first ran at processed length x, each next where the last ended, and the last ends at y
abbrev pub InOrder : ℕ → List DoneRound → ℕ → Type 0
InOrder x [] y = x ≡ y
InOrder x (e ∷ l) y = (e.from ≡ x) × InOrder (x + e.request.length) l y

-- e is one of a list
pub record Occurs (e : DoneRound) (l : List DoneRound) : Type 0 where
  pub front : List DoneRound
  pub back : List DoneRound
  pub is : l ≡ front ++ (e ∷ back)

-- the device of byte x of area a's job
abbrev pub device_at : List SubAreaRecord → Option FoundByte → ℕ
device_at l None = 0
device_at l (Some byte) = (sub_area_of l byte.sub_area).device

abbrev pub byte_device : Plan → ℕ → Task → ℕ → ℕ
byte_device p a t x = device_at p.sub_areas (mapped p a (record { 0 = t.address.0 + x }))

-- byte x of area a's window
abbrev pub window_byte : Plan → ℕ → ℕ → ℕ
window_byte p a x = (area_of p.areas a).window.start + x

-- What a round does with byte x of area a's job: "reads bring those bytes to the store and writes take them from it"; document 02, 03: "success of
-- a write there means that content".
pub record ByteDone (p : Plan) (a : ℕ) (t : Task) (x : ℕ) (before after : Memory) : Type 0 where
  pub write : t.kind ≡ Write → get_or after.image (mapped_byte p a t x) 0
      ≡ written_byte (clears_only p (byte_device p a t x)) (get_or before.image (mapped_byte p a t x) 0) (get_or before.store (window_byte p a x) 0)
  pub read : t.kind ≡ Read → get_or after.store (window_byte p a x) 0 ≡ get_or before.image (mapped_byte p a t x) 0
  pub erase : t.kind ≡ Erase → get_or after.image (mapped_byte p a t x) 0 ≡ 255
  -- "a differing byte, or one that is not 255, ends the job with result 2": there was none
  pub compare : t.kind ≡ Compare → get_or before.image (mapped_byte p a t x) 0 ≡ get_or before.store (window_byte p a x) 0
  pub blank : t.kind ≡ BlankCheck → get_or before.image (mapped_byte p a t x) 0 ≡ 255

-- Area a's latest job, with the rounds in which its requests were done
pub record BytesDone (p : Plan) (h : History) (a : ℕ) (l : List DoneRound) : Type 0 where
  -- they are the requests answered done
  pub requests_are : requests l ≡ h.done a
  -- in order, from the job's first byte up to the processed length
  pub in_order : InOrder 0 l (h.core.jobs a).processed
  -- every byte of every one of them
  pub every : (e : DoneRound) → Occurs e l → (k : ℕ) → k < e.request.length → ByteDone p a (h.core.jobs a).task (e.from + k) e.before e.after
  -- every byte up to the processed length was done in one of them: of a successful job other than a lock request, all
  pub some : (x : ℕ) → x < (h.core.jobs a).processed →
      (e : DoneRound) × Occurs e l × (e.from ≤ x) × (x < e.from + e.request.length) × ByteDone p a (h.core.jobs a).task x e.before e.after
