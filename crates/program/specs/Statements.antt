-- documents 00 and 02 of the program. Each demand is stated once, in rules/statements; here it is said of the managers that calls return
-- (`manager_run`, Stands), with what is of managers alone: question 9, what the queries report, and demand 1 of every manager.
use Rattle.std.specs.Prelude.{ℕ, ◌<◌, true, false, List, ◌≢◌, ◌≡◌}
use Rattle.machine.specs.Sound.{is_sound}
use Rattle.manager.specs.Calls.{core_of, status_of, result_of, processed_of, info_of, memory_info_number_of, memory_of_area, wear_of_area}
use Rattle.manager.specs.Load.{zero_manager, loaded_manager}
use Rattle.manager.specs.declared.Manager.{Manager}
use Rattle.memory.specs.Numbers.{status_number}
use Rattle.memory.specs.declared.DeviceAnswer.{DeviceAnswer}
use Rattle.memory.specs.declared.LogicalAddress.{LogicalAddress}
use Rattle.plan.specs.Questions.{load_number}
use Rattle.plan.specs.Records.{plan_of}
use Rattle.plan.specs.declared.records.Plan.{Plan}
use Rattle.rules.specs.Answers.{call_number, call_memory, is_round}
use Rattle.rules.specs.History.{job_info, Call, asks, round, History, fresh_history, run}
use Rattle.rules.specs.Memory.{Memory}
use Rattle.rules.specs.Queries.{job_info_of, memory_info_of}
use Rattle.rules.specs.Wear.{worn_in, stuck_wear, worn_at, wear_info_of}
use Rattle.wear.specs.Wear.{most_wear}
use Rattle.rules.specs.statements.JobSets.{JobSets}
use Rattle.rules.specs.statements.Statements.{RoundInside, AllDemands}
use Rattle.program.specs.Run.{manager_number, manager_after, manager_memory, run_of}
use Rattle.program.specs.Stands.{stuck, Stands, manager_run}

-- What the queries of a known area report: "All four are reported, each as the wait book of document 01 has it, or as 4,294,967,295 if that is
-- smaller." "The reported counts are those in job info."
pub record Reported (p : Plan) (m : Manager) (h : History) (a : ℕ) : Type 0 where
  pub accepted : manager_number (asks (job_info a)) m ≡ 0
  pub info : info_of m a ≡ job_info_of p h.core (stuck (h.tallies a)) a
  pub status : status_of m a ≡ status_number (h.core.jobs a).status
  pub result : result_of m a ≡ (h.core.jobs a).result
  pub processed : processed_of m a ≡ (h.core.jobs a).processed
  pub memory_info : (address : LogicalAddress) → memory_info_number_of m a address ≡ 0 → memory_of_area m a address ≡ memory_info_of p a address
  -- document 02, 05: the sum reported is that of the erases done, or 4,294,967,295 if that is smaller, and the charge that of this sum
  pub wear_info : (address : LogicalAddress) → memory_info_number_of m a address ≡ 0 →
      wear_of_area m a address ≡ wear_info_of p (stuck_wear p h.erases) a address

-- Manager m is the one that a list of calls returned, history h the wait history of the same calls.
pub record Holds (p : Plan) (m : Manager) (h : History) : Type 0 where
  -- "Every state reached from an accepted load passes it", the soundness test
  pub sound : is_sound m.plan m.areas m.devices ≡ true
  -- the manager stands where the history does, and to every next call it answers, and does with lent memory, what the rules say
  pub stands : Stands p m h
  pub answers : (k : Call) → manager_number k m ≡ call_number p k h
  pub memory : (k : Call) (lent : Memory) → manager_memory k m lent ≡ call_memory p k h lent
  pub reported : (a : ℕ) → a < p.area_count → Reported p m h a
  -- document 02, 05: "For every list of calls the unstuck sum equals the sectors of done erases in the history."
  pub unstuck : (i : ℕ) → i < 32 → worn_at m.wear i < most_wear → worn_at m.wear i ≡ worn_in p i h.erases

-- "after every list of jobs, locks, releases, cancels, queries and rounds from an accepted load, refused ones included, whatever the chips
-- answer and whatever image and store hold"
pub record AllCalls : Type 0 where
  pub holds : (l : List ℕ) → load_number l ≡ 0 → (cs : List Call) → Holds (plan_of l) (run_of cs (loaded_manager l)) (run (plan_of l) cs fresh_history)
  pub demands : AllDemands manager_run
  -- "how long can a log write stand behind it?" What a job waits at most where only given jobs are accepted
  pub job_sets : JobSets manager_run

-- Demand 1 of every manager, also of those that no calls lead to
pub record EveryManager (m : Manager) : Type 0 where
  -- "changes only in a round"
  pub other_calls : (k : Call) (lent : Memory) → is_round k ≡ false → manager_memory k m lent ≡ lent
  -- an accepted round is one of a manager that passes question 9: memory changes "only inside requests that the round finishes"
  pub rounds : (answers : List DeviceAnswer) (lent : Memory) → let k = round answers lent in manager_number k m ≡ 0 →
      RoundInside m.plan (core_of m) answers lent (manager_memory k m lent)
  -- "a refused call leaves image, store and manager as they were"
  pub refused : (k : Call) → manager_number k m ≢ 0 → manager_after k m ≡ m
  pub refused_round : (answers : List DeviceAnswer) (lent : Memory) → let k = round answers lent in manager_number k m ≢ 0 → manager_memory k m lent ≡ lent

-- "the manager of all zeros does not": every call on it is answered by 9, and that manager is what a refused load returns
pub record Unloaded : Type 0 where
  pub unsound : is_sound zero_manager.plan zero_manager.areas zero_manager.devices ≡ false
  pub refused_load : (l : List ℕ) → load_number l ≢ 0 → loaded_manager l ≡ zero_manager
  pub answers : (k : Call) → manager_number k zero_manager ≡ 9
