-- The program: a run over a list of calls that folds the functions of the calls' contracts (crates/manager/src/lib.rt), and no others.
use Rattle.std.specs.Prelude.{ℕ, List, [], ◌∷◌}
use Rattle.manager.specs.Calls.{job_number_of, after_job, release_number_of, after_release, cancel_number_of, after_cancel, info_number_of, memory_info_number_of, round_number_of, after_round, memory_after_round}
use Rattle.manager.specs.declared.Manager.{Manager}
use Rattle.rules.specs.History.{Query, status, result, processed, job_info, memory_info, wear_info, Call, submit, releases, cancels, asks, round}
use Rattle.rules.specs.Memory.{Memory}

-- the number that a call answers
abbrev pub manager_query_number : Query → Manager → ℕ
manager_query_number (status a) m = info_number_of m a
manager_query_number (result a) m = info_number_of m a
manager_query_number (processed a) m = info_number_of m a
manager_query_number (job_info a) m = info_number_of m a
manager_query_number (memory_info a address) m = memory_info_number_of m a address
manager_query_number (wear_info a address) m = memory_info_number_of m a address

abbrev pub manager_number : Call → Manager → ℕ
manager_number (submit a t) m = job_number_of m a t
manager_number (releases a address n) m = release_number_of m a address n
manager_number (cancels a) m = cancel_number_of m a
manager_number (asks q) m = manager_query_number q m
manager_number (round answers lent) m = round_number_of m lent

-- the manager that a call hands back
abbrev pub manager_after : Call → Manager → Manager
manager_after (submit a t) m = after_job m a t
manager_after (releases a address n) m = after_release m a address n
manager_after (cancels a) m = after_cancel m a
manager_after (asks q) m = m
manager_after (round answers lent) m = after_round m answers lent

-- image and store after a call: only a round is lent them, and the call names them
abbrev pub manager_memory : Call → Manager → Memory → Memory
manager_memory (submit a t) m lent = lent
manager_memory (releases a address n) m lent = lent
manager_memory (cancels a) m lent = lent
manager_memory (asks q) m lent = lent
manager_memory (round answers given) m lent = memory_after_round m answers given

-- "Each call gets the manager that the last one returned"
unfoldable pub run_of : List Call → Manager → Manager
run_of [] m = m
run_of (c ∷ cs) m = run_of cs (manager_after c m)
