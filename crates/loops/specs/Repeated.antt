-- A call made again and again, each time on the manager that the last one returned, and the sum of what it answers. The first part says it of any state.
use Rattle.std.specs.Prelude.{ℕ, zero, suc, ◌+◌, ◌%◌, ◌≡◌, refl, List, eqb}
use Rattle.std.proofs.Math.Numerals.{add-one}
use Rattle.arith.specs.Cases.{pick}
use Rattle.manager.specs.Calls.{job_number_of, after_job, cancel_number_of, after_cancel, info_of}
use Rattle.manager.specs.Load.{loaded_manager}
use Rattle.manager.specs.declared.Manager.{Manager}
use Rattle.memory.specs.declared.JobType.{JobType}
use Rattle.memory.specs.declared.JobType.TheVariants.{Write, Read, Compare, Erase, BlankCheck, Lock}
use Rattle.memory.specs.declared.Task.{Task}

-- next i: what turn number i leaves
module _ {A : Type 0} (next : ℕ → A → A) (m : A) where
  unfoldable pub repeated : ℕ → A
  repeated zero = m
  repeated (suc n) = next n (repeated n)

  -- the step of a loop that repeats the call
  pub repeated_more : (n : ℕ) → repeated (n + 1) ≡ next n (repeated n)
  unfolding repeated
  repeated_more n = rw add-one

-- a query leaves all as it is
pub repeated_query : {A : Type 0} (m : A) (n : ℕ) → repeated (λ i x. x) m n ≡ m
unfolding repeated
repeated_query m zero = refl
repeated_query m (suc n) = repeated_query m n

-- answer i: what turn number i answers
module _ {A : Type 0} (next : ℕ → A → A) (answer : ℕ → A → ℕ) (m : A) where
  unfoldable pub total : ℕ → ℕ
  total zero = 0
  total (suc n) = total n + answer n (repeated next m n)

  pub total_more : (n : ℕ) → total (n + 1) ≡ total n + answer n (repeated next m n)
  unfolding total
  total_more n = rw add-one

-- the job type of a number that C hands over; any other is a lock request
unfoldable pub kind_of : ℕ → JobType
kind_of k =
    pick
    (eqb k 1)
    Write
    (pick (eqb k 2) Read (pick (eqb k 3) Compare (pick (eqb k 4) Erase (pick (eqb k 6) BlankCheck Lock))))

-- n bytes from logical address 0 on
abbrev pub task_of : ℕ → ℕ → Task
task_of k n = record { kind = kind_of k; address = record { 0 = 0 }; length = n }

-- the areas 0 to 7 in turn
abbrev pub turn : ℕ → ℕ
turn i = i % 8

-- cancels
abbrev pub next_cancel : ℕ → Manager → Manager
next_cancel i m = after_cancel m (turn i)

abbrev pub cancel_total : Manager → ℕ → ℕ
cancel_total = total next_cancel (λ i m. cancel_number_of m (turn i))

-- jobs
abbrev pub next_job : ℕ → ℕ → ℕ → Manager → Manager
next_job k n i m = after_job m (turn i) (task_of k n)

abbrev pub job_total : ℕ → ℕ → Manager → ℕ → ℕ
job_total k n = total (next_job k n) (λ i m. job_number_of m (turn i) (task_of k n))

-- a job, and at once its cancel
abbrev pub next_pair : ℕ → ℕ → ℕ → Manager → Manager
next_pair k n i m = next_cancel i (next_job k n i m)

abbrev pub pair_total : ℕ → ℕ → Manager → ℕ → ℕ
pair_total k n = total (next_pair k n) (λ i m. job_number_of m (turn i) (task_of k n) + cancel_number_of (next_job k n i m) (turn i))

-- the manager of a load with a job asked of each of the eight areas
unfoldable pub busy_manager : ℕ → ℕ → List ℕ → Manager
busy_manager k n plan = repeated (next_job k n) (loaded_manager plan) 8

-- job info on it: the lengths of the jobs
abbrev pub info_total : Manager → ℕ → ℕ
info_total = total (λ i x. x) (λ i m. (info_of m (turn i)).task.length)
