-- document 01, "A printed session": what a line does and prints. The calls are those of the manager (manager, Calls).
use Rattle.std.specs.Prelude.{ℕ, Option, Some, None, List, [], ◌∷◌}
use Rattle.lines.specs.Lines.{line_of}
use Rattle.lines.specs.declared.Line.{Line}
use Rattle.lines.specs.declared.Line.TheVariants.{Call, Info, Round}
use Rattle.lines.specs.declared.LineCall.{LineCall}
use Rattle.lines.specs.declared.LineCall.TheVariants as Calls
use Rattle.lines.specs.declared.Target.{Target}
use Rattle.changes.specs.Accepted.{if_accepted}
use Rattle.manager.specs.Calls.{core_of, job_number_of, after_job, release_number_of, after_release, cancel_number_of, after_cancel, info_number_of, info_of, round_number_of, after_round, memory_after_round}
use Rattle.manager.specs.declared.Manager.{Manager}
use Rattle.memory.specs.declared.DeviceAnswer.{DeviceAnswer}
use Rattle.memory.specs.declared.JobType.{JobType}
use Rattle.memory.specs.declared.JobType.TheVariants.{Write, Read, Compare, Erase, BlankCheck, Lock}
use Rattle.memory.specs.declared.LogicalAddress.{LogicalAddress}
use Rattle.memory.specs.declared.Task.{Task}
use Rattle.rules.specs.Memory.{Memory}
use Rattle.shown.specs.Shown.{devices_line}
use Rattle.state.specs.declared.JobInfo.{JobInfo}
use Rattle.texts.specs.Texts.{number_line, question_line, info_line}

-- "type area address length" as a task
abbrev pub address_in : Target → LogicalAddress
address_in t = record { 0 = t.address }

abbrev pub task_in : JobType → Target → Task
task_in k t = record { kind = k; address = address_in t; length = t.length }

-- the number that a call answers
abbrev pub number_of_call : LineCall → Manager → ℕ
number_of_call (Calls.Write t) m = job_number_of m t.area (task_in Write t)
number_of_call (Calls.Read t) m = job_number_of m t.area (task_in Read t)
number_of_call (Calls.Compare t) m = job_number_of m t.area (task_in Compare t)
number_of_call (Calls.Erase t) m = job_number_of m t.area (task_in Erase t)
number_of_call (Calls.BlankCheck t) m = job_number_of m t.area (task_in BlankCheck t)
number_of_call (Calls.Lock t) m = job_number_of m t.area (task_in Lock t)
number_of_call (Calls.Release t) m = release_number_of m t.area (address_in t) t.length
number_of_call (Calls.Cancel a) m = cancel_number_of m a

-- and the manager that it returns
abbrev pub after_call : LineCall → Manager → Manager
after_call (Calls.Write t) m = after_job m t.area (task_in Write t)
after_call (Calls.Read t) m = after_job m t.area (task_in Read t)
after_call (Calls.Compare t) m = after_job m t.area (task_in Compare t)
after_call (Calls.Erase t) m = after_job m t.area (task_in Erase t)
after_call (Calls.BlankCheck t) m = after_job m t.area (task_in BlankCheck t)
after_call (Calls.Lock t) m = after_job m t.area (task_in Lock t)
after_call (Calls.Release t) m = after_release m t.area (address_in t) t.length
after_call (Calls.Cancel a) m = after_cancel m a

-- "accepted info prints result, processed, own, above, below, locked"
abbrev pub info_text : ℕ → JobInfo → List ℕ
info_text n i =
    if_accepted n
    (info_line i.result.0 i.processed i.waits.own i.waits.above i.waits.below i.waits.locked)
    (number_line n)

-- a round "prints R and per device" what it does when the round is over
abbrev pub round_text : ℕ → Manager → List ℕ
round_text n after = if_accepted n (devices_line after.plan (core_of after)) (number_line n)

abbrev pub four_answers : DeviceAnswer → DeviceAnswer → DeviceAnswer → DeviceAnswer → List DeviceAnswer
four_answers a b c d = a ∷ b ∷ c ∷ d ∷ []

-- "each prints its number, but accepted info prints" its values; "A line of another type .. prints '?'"
abbrev pub text_of_line : Option Line → Manager → Memory → List ℕ
text_of_line None m lent = question_line
text_of_line (Some (Call x)) m lent = number_line (number_of_call x m)
text_of_line (Some (Info a)) m lent = info_text (info_number_of m a) (info_of m a)
text_of_line (Some (Round a b c d)) m lent = round_text (round_number_of m lent) (after_round m (four_answers a b c d) lent)

abbrev pub after_line : Option Line → Manager → Memory → Manager
after_line None m lent = m
after_line (Some (Call x)) m lent = after_call x m
after_line (Some (Info a)) m lent = m
after_line (Some (Round a b c d)) m lent = after_round m (four_answers a b c d) lent

abbrev pub memory_after_line : Option Line → Manager → Memory → Memory
memory_after_line None m lent = lent
memory_after_line (Some (Call x)) m lent = lent
memory_after_line (Some (Info a)) m lent = lent
memory_after_line (Some (Round a b c d)) m lent = memory_after_round m (four_answers a b c d) lent

-- the bytes of a line, without its end
abbrev pub line_in : Manager → List ℕ → Option Line
line_in m l = line_of m.plan.device_count l

unfoldable pub played_text : Manager → List ℕ → Memory → List ℕ
played_text m l lent = text_of_line (line_in m l) m lent

unfoldable pub played_manager : Manager → List ℕ → Memory → Manager
played_manager m l lent = after_line (line_in m l) m lent

unfoldable pub played_memory : Manager → List ℕ → Memory → Memory
played_memory m l lent = memory_after_line (line_in m l) m lent
