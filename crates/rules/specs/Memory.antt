-- document 01, "A round": what a request does to image and store
use Rattle.std.specs.Prelude.{ℕ, ◌+◌, min, Bool, true, List, eqb, get_or, replicate}
use Rattle.std.specs.Int.Bits.{bit_and}
use Rattle.arith.specs.Bounded.{every}
use Rattle.arith.specs.Cases.{pick}
use Rattle.arith.specs.Listed.{listed}
use Rattle.arith.specs.Parts.{part, put}
use Rattle.memory.specs.declared.DeviceAnswer.{DeviceAnswer}
use Rattle.memory.specs.declared.DeviceAnswer.TheVariants as Answers
use Rattle.memory.specs.declared.JobType.{JobType}
use Rattle.memory.specs.declared.JobType.TheVariants.{NoJob, Write, Read, Compare, Erase, BlankCheck, Lock}
use Rattle.rules.specs.Machine.{Verdict, goes_on, finished, differs, failed}

-- lent memory
pub record Memory : Type 0 where
  pub image : List ℕ
  pub store : List ℕ

-- What a write makes of an image byte. "Done write: the image part becomes the window bytes." Document 02, 03: "There a done write leaves
-- the old byte and-ed with the window byte", "other chips store as before".
abbrev pub written_byte : Bool → ℕ → ℕ → ℕ
written_byte clears old b = pick clears (bit_and old b) b

-- the bytes that a write of n bytes at address x of the image and w of the store leaves
abbrev pub written : Bool → ℕ → ℕ → ℕ → Memory → List ℕ
written clears x w n mem = listed (λ i. written_byte clears (get_or mem.image (x + i) 0) (get_or mem.store (w + i) 0)) 0 n

-- What a request of n bytes at address x of the image and w of the store does there. "Done erase: 255 throughout."
abbrev pub image_after : Bool → JobType → ℕ → ℕ → ℕ → Memory → List ℕ
image_after clears Write x w n mem = put x (written clears x w n mem) mem.image
image_after clears Erase x w n mem = put x (replicate n 255) mem.image
image_after clears Read x w n mem = mem.image
image_after clears Compare x w n mem = mem.image
image_after clears BlankCheck x w n mem = mem.image
image_after clears Lock x w n mem = mem.image
image_after clears NoJob x w n mem = mem.image

-- "Done read: the window part becomes the image bytes."
abbrev pub store_after : JobType → ℕ → ℕ → ℕ → Memory → List ℕ
store_after Read x w n mem = put w (part x n mem.image) mem.store
store_after Write x w n mem = mem.store
store_after Erase x w n mem = mem.store
store_after Compare x w n mem = mem.store
store_after BlankCheck x w n mem = mem.store
store_after Lock x w n mem = mem.store
store_after NoJob x w n mem = mem.store

-- "Done compare or blank check changes no memory; a differing byte, or one that is not 255": is there none?
abbrev pub agrees : JobType → ℕ → ℕ → ℕ → Memory → Bool
agrees Compare x w n mem = every (λ i. eqb (get_or mem.image (x + i) 0) (get_or mem.store (w + i) 0)) n
agrees BlankCheck x w n mem = every (λ i. eqb (get_or mem.image (x + i) 0) 255) n
agrees Write x w n mem = true
agrees Read x w n mem = true
agrees Erase x w n mem = true
agrees Lock x w n mem = true
agrees NoJob x w n mem = true

-- what an answer comes to
abbrev pub verdict_of : DeviceAnswer → JobType → ℕ → ℕ → ℕ → Memory → Verdict
verdict_of Answers.Pending k x w n mem = goes_on
verdict_of Answers.Done k x w n mem = pick (agrees k x w n mem) finished differs
verdict_of (Answers.Failed b) k x w n mem = failed

-- "Failed: a write or erase has acted on its first k bytes (all if k is larger), nothing else has changed"; document 02, 03: "and so do the
-- first k bytes of a failed one"
abbrev pub answered_memory : Bool → DeviceAnswer → JobType → ℕ → ℕ → ℕ → Memory → Memory
answered_memory clears Answers.Pending k x w n mem = mem
answered_memory clears Answers.Done k x w n mem = record { image = image_after clears k x w n mem; store = store_after k x w n mem }
answered_memory clears (Answers.Failed b) k x w n mem = record { image = image_after clears k x w (min b n) mem; store = mem.store }
