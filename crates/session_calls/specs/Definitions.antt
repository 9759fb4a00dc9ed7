-- document 01, "A printed session" and "The wait book": the calls that the lines of a session are.
use Rattle.std.specs.Prelude.{ℕ, Option, Some, None, List, [], ◌∷◌, ◌++◌, true, ◌≡◌, take}
use Rattle.lines.specs.declared.Line.{Line}
use Rattle.lines.specs.declared.Line.TheVariants as Lines
use Rattle.lines.specs.declared.LineCall.{LineCall}
use Rattle.lines.specs.declared.LineCall.TheVariants as Calls
use Rattle.manager.specs.declared.Manager.{Manager}
use Rattle.memory.specs.declared.JobType.TheVariants.{Write, Read, Compare, Erase, BlankCheck, Lock}
use Rattle.program.specs.Run.{manager_after, manager_memory, run_of}
use Rattle.rules.specs.History.{Call, submit, releases, cancels, asks, job_info, round, fresh_history, run}
use Rattle.rules.specs.Memory.{Memory}
use Rattle.manager.specs.Load.{loaded_manager}
use Rattle.plan.specs.Records.{plan_of}
use Rattle.program.specs.Stands.{manager_run}
use Rattle.program.specs.Statements.{Holds}
use Rattle.rules.specs.statements.Statements.{Demands}
use Rattle.session.specs.AllLines.{BenchState, lines_of}
use Rattle.session.specs.Fold.{played_all}
use Rattle.session.specs.Play.{address_in, task_in, four_answers, line_in}

-- "'type area address length' is a job or lock, 8 with these a release, '9 area' a cancel"
abbrev pub call_in : LineCall → Call
call_in (Calls.Write t) = submit t.area (task_in Write t)
call_in (Calls.Read t) = submit t.area (task_in Read t)
call_in (Calls.Compare t) = submit t.area (task_in Compare t)
call_in (Calls.Erase t) = submit t.area (task_in Erase t)
call_in (Calls.BlankCheck t) = submit t.area (task_in BlankCheck t)
call_in (Calls.Lock t) = submit t.area (task_in Lock t)
call_in (Calls.Release t) = releases t.area (address_in t) t.length
call_in (Calls.Cancel a) = cancels a

-- "'10 area' job info"; "'0' and one answer per device (p, d, or k) is a round", to which the memory of that moment is lent. A line that
-- prints "?" is no call.
abbrev pub calls_of_line : Option Line → Memory → List Call
calls_of_line None lent = []
calls_of_line (Some (Lines.Call x)) lent = call_in x ∷ []
calls_of_line (Some (Lines.Info a)) lent = asks (job_info a) ∷ []
calls_of_line (Some (Lines.Round a b c d)) lent = round (four_answers a b c d) lent ∷ []

-- what calls leave of the lent memory, each call with what the one before left
unfoldable pub memory_left : List Call → Manager → Memory → Memory
memory_left [] m lent = lent
memory_left (c ∷ cs) m lent = memory_left cs (manager_after c m) (manager_memory c m lent)

-- the calls of lines, one line after the other
unfoldable pub calls_of : List (List ℕ) → Manager → Memory → List Call
calls_of [] m lent = []
calls_of (l ∷ ls) m lent =
    let cs = calls_of_line (line_in m l) lent in
    cs ++ calls_of ls (run_of cs m) (memory_left cs m lent)

-- what a run over calls leaves
abbrev pub ran_of : List Call → BenchState → BenchState
ran_of cs b = record { manager = run_of cs b.manager; memory = memory_left cs b.manager b.memory }

-- the run over the calls of lines
abbrev pub ran_lines : List (List ℕ) → BenchState → BenchState
ran_lines ls b = ran_of (calls_of ls b.manager b.memory) b

-- the manager of a load, and the memory that is lent
abbrev pub loaded : List ℕ → Memory → BenchState
loaded plan lent = record { manager = loaded_manager plan; memory = lent }

-- the lines that a whole session plays: those of the input that it used
abbrev pub session_lines : List ℕ → List ℕ → ℕ → Memory → List (List ℕ)
session_lines plan input room lent = lines_of true (take (played_all plan input room lent).used input)

-- manager m is the one that these calls return, and the demands hold of it and of every next call
pub record DemandsHold (plan : List ℕ) (cs : List Call) (m : Manager) : Type 0 where
  pub returned : m ≡ run_of cs (loaded_manager plan)
  pub holds : Holds (plan_of plan) m (run (plan_of plan) cs fresh_history)
  pub demands : Demands (plan_of plan) (manager_run plan) cs
