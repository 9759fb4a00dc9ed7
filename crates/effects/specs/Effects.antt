-- What an answer does, as the code says it.
use Rattle.std.specs.Prelude.{ℕ, ◌+◌, ◌≤◌, List, length}
use Rattle.std.proofs.Common.{arith}
use Rattle.memory.specs.declared.JobType.{JobType}
use Rattle.memory.specs.declared.JobType.TheVariants.{NoJob, Write, Read, Compare, Erase, BlankCheck, Lock}
use Rattle.rules.specs.Machine.{Verdict, goes_on, finished, differs, failed}
use Rattle.rules.specs.Memory.{Memory}
use Rattle.effects.specs.declared.Request.{Request}
use Rattle.effects.specs.declared.Outcome.{Outcome}
use Rattle.effects.specs.declared.Outcome.TheVariants as Outcomes

abbrev pub verdict : Outcome → Verdict
verdict Outcomes.GoesOn = goes_on
verdict Outcomes.Finished = finished
verdict Outcomes.Differs = differs
verdict Outcomes.Failed = failed

abbrev pub memory_of : List ℕ → List ℕ → Memory
memory_of image store = record { image = image; store = store }

-- the end, in the store, of what a driver gets for a request of n bytes at w; 0 where it gets nothing
abbrev pub lent_end : JobType → ℕ → ℕ → ℕ
lent_end Write w n = w + n
lent_end Read w n = w + n
lent_end Compare w n = w + n
lent_end Erase w n = 0
lent_end BlankCheck w n = 0
lent_end Lock w n = 0
lent_end NoJob w n = 0

-- a request's bytes are within the lent memory
abbrev pub Within : Request → List ℕ → List ℕ → Type 0
Within r image store = (r.at + r.n ≤ length image) × (lent_end r.kind r.window r.n ≤ length store)

pub lent_less : (k : JobType) (w i n : ℕ) → i ≤ n → lent_end k w i ≤ lent_end k w n
lent_less Write w i n h = omega arith
lent_less Read w i n h = omega arith
lent_less Compare w i n h = omega arith
lent_less Erase w i n h = omega arith
lent_less BlankCheck w i n h = omega arith
lent_less Lock w i n h = omega arith
lent_less NoJob w i n h = omega arith
