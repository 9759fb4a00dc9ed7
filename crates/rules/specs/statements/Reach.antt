-- document 00, demand 1: which bytes of image and store a round changes, and what they become
use Rattle.std.specs.Prelude.{ℕ, ◌+◌, ◌-◌, ◌<◌, min, Bool, List, ◌≡◌, get_or}
use Rattle.memory.specs.declared.DeviceAnswer.{DeviceAnswer}
use Rattle.memory.specs.declared.DeviceAnswer.TheVariants as Answers
use Rattle.memory.specs.declared.JobType.{JobType}
use Rattle.memory.specs.declared.JobType.TheVariants.{NoJob, Write, Read, Compare, Erase, BlankCheck, Lock}
use Rattle.plan.specs.WellFormed.{Among}
use Rattle.plan.specs.declared.records.Plan.{Plan}
use Rattle.segment.specs.declared.Segment.{Segment}
use Rattle.state.specs.declared.DeviceState.TheVariants.{Runs}
use Rattle.rules.specs.Layout.{layout_of}
use Rattle.rules.specs.Machine.{Core, due}
use Rattle.rules.specs.Memory.{Memory, written_byte}
use Rattle.rules.specs.Round.{answer_for, window_place, clears_only, take_all}

-- How many of n image bytes a job type acts on. "Done compare or blank check changes no memory"
abbrev pub image_bytes : JobType → ℕ → ℕ
image_bytes Write n = n
image_bytes Erase n = n
image_bytes Read n = 0
image_bytes Compare n = 0
image_bytes BlankCheck n = 0
image_bytes Lock n = 0
image_bytes NoJob n = 0

-- How many of n window bytes: "Done read: the window part becomes the image bytes."
abbrev pub window_bytes : JobType → ℕ → ℕ
window_bytes Read n = n
window_bytes Write n = 0
window_bytes Erase n = 0
window_bytes Compare n = 0
window_bytes BlankCheck n = 0
window_bytes Lock n = 0
window_bytes NoJob n = 0

-- How many image bytes a request of n bytes acts on with an answer. "Failed: a write or erase has acted on its first k bytes
-- (all if k is larger), nothing else has changed"
abbrev pub acted_bytes : DeviceAnswer → JobType → ℕ → ℕ
acted_bytes Answers.Pending k n = 0
acted_bytes Answers.Done k n = image_bytes k n
acted_bytes (Answers.Failed b) k n = image_bytes k (min b n)

-- how many window bytes it brings
abbrev pub brought_bytes : DeviceAnswer → JobType → ℕ → ℕ
brought_bytes Answers.Pending k n = 0
brought_bytes Answers.Done k n = window_bytes k n
brought_bytes (Answers.Failed b) k n = 0

-- What an image byte that is acted on becomes, where b is the window byte. "Done erase: 255 throughout." The other job types act on none.
abbrev pub acted_byte : Bool → JobType → ℕ → ℕ → ℕ
acted_byte clears Write old b = written_byte clears old b
acted_byte clears Erase old b = 255
acted_byte clears Read old b = 0
acted_byte clears Compare old b = 0
acted_byte clears BlankCheck old b = 0
acted_byte clears Lock old b = 0
acted_byte clears NoJob old b = 0

-- the request of area a, where it runs: the segment that is due
abbrev pub request_of : Plan → Core → ℕ → Segment
request_of p c a = due (layout_of p) a (c.jobs a)

-- image and store after a round that is accepted: as its first half leaves them
abbrev pub round_memory : Plan → Core → List DeviceAnswer → Memory → (ℕ → List Segment) → Memory
round_memory p c answers mem done = (take_all p answers p.device_count (record { core = c; memory = mem; done = done })).memory

-- In a round with these answers, byte x of the image is acted on by the request that device d runs. Core c is that before the
-- round.
pub record ImageActed (p : Plan) (c : Core) (answers : List DeviceAnswer) (x d : ℕ) : Type 0 where
  pub known : d < p.device_count
  pub area : ℕ
  pub polls : ℕ
  pub runs : (c.devices d).state ≡ Runs area polls
  pub inside : Among (request_of p c area).start.0 (acted_bytes (answer_for answers d) (c.jobs area).task.kind (request_of p c area).length) x

-- It becomes this, where device d runs area a's request: "Window bytes are those of this moment, at the processed length from the window's
-- start". Memory mem is that before the round, so the old byte is too.
abbrev pub image_value : Plan → Core → Memory → ℕ → ℕ → ℕ → ℕ
image_value p c mem d a x =
    acted_byte (clears_only p d) (c.jobs a).task.kind (get_or mem.image x 0) (get_or mem.store (window_place p a (c.jobs a) + (x - (request_of p c a).start.0)) 0)

-- In a round with these answers, byte x of the store is brought by the request that device d runs.
pub record StoreActed (p : Plan) (c : Core) (answers : List DeviceAnswer) (x d : ℕ) : Type 0 where
  pub known : d < p.device_count
  pub area : ℕ
  pub polls : ℕ
  pub runs : (c.devices d).state ≡ Runs area polls
  pub inside : Among (window_place p area (c.jobs area)) (brought_bytes (answer_for answers d) (c.jobs area).task.kind (request_of p c area).length) x

-- It becomes this: "the window part becomes the image bytes".
abbrev pub store_value : Plan → Core → Memory → ℕ → ℕ → ℕ
store_value p c mem a x = get_or mem.image ((request_of p c a).start.0 + (x - window_place p a (c.jobs a))) 0
