-- Rounds with the same answers, one after the other, and what they leave.
use Rattle.std.specs.Prelude.{ℕ, ◌+◌, ◌-◌, List, ◌≡◌, eqb, replicate}
use Rattle.arith.specs.Cases.{pick}
use Rattle.manager.specs.Calls.{processed_of, round_number_of, after_round, memory_after_round}
use Rattle.manager.specs.declared.Manager.{Manager}
use Rattle.memory.specs.declared.DeviceAnswer.{DeviceAnswer}
use Rattle.memory.specs.declared.DeviceAnswer.TheVariants.{Pending, Done, Failed}
use Rattle.effects.specs.Effects.{memory_of}
use Rattle.rules.specs.Memory.{Memory}
use Rattle.rules.specs.Wear.{worn_at}
use Rattle.loops.specs.Repeated.{repeated, total}

-- the answer of a number that C hands over: 0 pending, 1 done, any other failed after 2 bytes fewer
unfoldable pub answer_numbered : ℕ → DeviceAnswer
answer_numbered n = pick (eqb n 0) Pending (pick (eqb n 1) Done (Failed (n - 2)))

abbrev pub answers_of : ℕ → List DeviceAnswer
answers_of n = replicate 4 (answer_numbered n)

-- a manager with the memory that its rounds are lent
pub record Bench : Type 0 where
  pub manager : Manager
  pub lent : Memory

abbrev pub bench_of : Manager → Memory → Bench
bench_of m lent = record { manager = m; lent = lent }

-- what a round leaves of them
abbrev pub next_round : List DeviceAnswer → ℕ → Bench → Bench
next_round answers i b = bench_of (after_round b.manager answers b.lent) (memory_after_round b.manager answers b.lent)

abbrev pub rounds : List DeviceAnswer → Bench → ℕ → Bench
rounds answers = repeated (next_round answers)

abbrev pub round_total : List DeviceAnswer → Bench → ℕ → ℕ
round_total answers = total (next_round answers) (λ i b. round_number_of b.manager b.lent)

-- manager and memory by their parts
pub bench_is : (m after : Manager) (image store : List ℕ) (x : Memory) → m ≡ after → image ≡ x.image → store ≡ x.store →
    bench_of m (memory_of image store) ≡ bench_of after x
bench_is m after image store x e f g = rw (e, f, g)

-- what the jobs of the eight areas have processed and the first eight sub-areas have worn by, together
abbrev pub left_total : Manager → ℕ → ℕ
left_total = total (λ i x. x) (λ i m. processed_of m i + worn_at m.wear i)

-- after n rounds on a manager that are lent this memory: what stands, and the sum that the loop returns
abbrev pub bench_after : Manager → Memory → List DeviceAnswer → ℕ → Bench
bench_after m lent answers n = rounds answers (bench_of m lent) n

abbrev pub rounds_total : Manager → Memory → List DeviceAnswer → ℕ → ℕ
rounds_total m lent answers n =
    round_total answers (bench_of m lent) n + left_total (bench_after m lent answers n).manager 8
