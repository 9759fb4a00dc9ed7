-- The manager that calls lead to, seen beside the wait history of the same calls.
use Rattle.std.specs.Prelude.{ℕ, ◌<◌, min, List, ◌≡◌, length}
use Rattle.manager.specs.Calls.{core_of}
use Rattle.manager.specs.Load.{loaded_manager}
use Rattle.manager.specs.declared.Manager.{Manager}
use Rattle.plan.specs.Records.{plan_of}
use Rattle.plan.specs.declared.records.Plan.{Plan}
use Rattle.close.specs.Close.{most_waits, waits_in}
use Rattle.rules.specs.History.{Tally, History, fresh_history, step, run}
use Rattle.rules.specs.Machine.{Core}
use Rattle.rules.specs.statements.Moments.{Moment, Run}
use Rattle.rules.specs.Wear.{stuck_wear, worn_at}
use Rattle.state.specs.Ages.{age_in}
use Rattle.state.specs.declared.Waits.{Waits}
use Rattle.program.specs.Run.{manager_number, manager_after, manager_memory, run_of}

-- "each as the wait book of document 01 has it, or as 4,294,967,295 if that is smaller"
abbrev pub stuck : Tally → Waits
stuck w =
    record {
      own = min w.own most_waits;
      above = min w.above most_waits;
      below = min w.below most_waits;
      locked = min w.locked most_waits;
    }

-- the ages of a manager's areas
abbrev pub ages_of : Manager → ℕ → ℕ
ages_of m = age_in m.ages

-- history h with these jobs and devices, and these ages
abbrev pub with_core_ages : Core → (ℕ → ℕ) → History → History
with_core_ages c ages h = record { core = c; ages = ages; tallies = h.tallies; done = h.done; erases = h.erases }

-- the history's numbers, done requests and done erases, beside the jobs, devices and ages of the manager itself
abbrev pub beside : Manager → History → History
beside m h = with_core_ages (core_of m) (ages_of m) h

-- manager m of plan p stands where history h does
pub record Stands (p : Plan) (m : Manager) (h : History) : Type 0 where
  pub plan : m.plan ≡ p
  pub areas_length : length m.areas ≡ 8
  pub devices_length : length m.devices ≡ 4
  -- every area's job, and what every device does
  pub core : core_of m ≡ h.core
  -- the order of acceptance
  pub ages : ages_of m ≡ h.ages
  pub waits : (a : ℕ) → a < 8 → waits_in m.areas a ≡ stuck (h.tallies a)
  -- each sub-area's wear: the sectors of the erases done, or the limit
  pub wear_length : length m.wear ≡ 32
  pub wear : (i : ℕ) → i < 32 → worn_at m.wear i ≡ stuck_wear p h.erases i

-- The program as a run of which the demands speak (rules/statements/Moments): jobs, devices, ages, numbers and memory are the manager's. The numbers
-- without a limit, the requests and the erases done are kept by the wait history of the same calls.
abbrev pub manager_moment : Plan → Manager → History → Moment
manager_moment p m h =
    record {
      now = beside m h;
      number = λ k. manager_number k m;
      next = λ k. beside (manager_after k m) (step p k h);
      memory = λ k lent. manager_memory k m lent;
    }

abbrev pub manager_run : List ℕ → Run
manager_run l cs = manager_moment (plan_of l) (run_of cs (loaded_manager l)) (run (plan_of l) cs fresh_history)
