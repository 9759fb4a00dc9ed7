-- document 01: what a call comes to, from the history before it: the number that it gets, and the lent memory after it
use Rattle.std.specs.Prelude.{ℕ, Bool, true, false, eqb}
use Rattle.arith.specs.Cases.{pick}
use Rattle.plan.specs.declared.records.Plan.{Plan}
use Rattle.rules.specs.Admission.{job_number, release_number, cancel_number, info_number, memory_info_number, round_number}
use Rattle.rules.specs.History.{Query, status, result, processed, job_info, memory_info, wear_info, Call, submit, releases, cancels, asks, round, History, lent}
use Rattle.rules.specs.Memory.{Memory}
use Rattle.rules.specs.Round.{round_halves}

-- the number that a query gets
abbrev pub query_number : Plan → Query → ℕ
query_number p (status a) = info_number p a
query_number p (result a) = info_number p a
query_number p (processed a) = info_number p a
query_number p (job_info a) = info_number p a
query_number p (memory_info a address) = memory_info_number p a address
-- document 02, 05: "refused like memory info"
query_number p (wear_info a address) = memory_info_number p a address

-- the number that a call gets: "The first 'no' gives its number." "Acceptance is 0."
abbrev pub call_number : Plan → Call → History → ℕ
call_number p (submit a t) h = job_number p h.core a t
call_number p (releases a address n) h = release_number p h.core a address n
call_number p (cancels a) h = cancel_number p h.core a
call_number p (asks q) h = query_number p q
call_number p (round answers mem) h = round_number p mem.image mem.store

-- Image and store after a call. Only a round is lent them, and the call names them; any other call finds them as `mem` and leaves them so.
abbrev pub call_memory : Plan → Call → History → Memory → Memory
call_memory p (submit a t) h mem = mem
call_memory p (releases a address n) h mem = mem
call_memory p (cancels a) h mem = mem
call_memory p (asks q) h mem = mem
call_memory p (round answers given) h mem =
    pick (eqb (round_number p given.image given.store) 0) (round_halves p h.ages answers (lent given h)).memory given

-- is the call a round?
abbrev pub is_round : Call → Bool
is_round (round answers mem) = true
is_round (submit a t) = false
is_round (releases a address n) = false
is_round (cancels a) = false
is_round (asks q) = false

-- is it a release?
abbrev pub is_release : Call → Bool
is_release (releases a address n) = true
is_release (submit a t) = false
is_release (cancels a) = false
is_release (asks q) = false
is_release (round answers mem) = false
