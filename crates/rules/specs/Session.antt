-- document 01, "A printed session": what the bench prints, as values, with image and store carried from round to round
use Rattle.std.specs.Prelude.{ℕ, zero, suc, List, [], ◌∷◌, ◌++◌, eqb}
use Rattle.arith.specs.Cases.{pick}
use Rattle.memory.specs.Numbers.{job_type_number}
use Rattle.memory.specs.declared.DeviceAnswer.{DeviceAnswer}
use Rattle.plan.specs.declared.records.Plan.{Plan}
use Rattle.state.specs.declared.DeviceState.{DeviceState}
use Rattle.state.specs.declared.DeviceState.TheVariants.{Free, Runs, LockedFor}
use Rattle.state.specs.declared.Job.{Job}
use Rattle.rules.specs.Admission.{job_number, release_number, cancel_number, info_number, memory_info_number, round_number}
use Rattle.rules.specs.Answers.{call_memory}
use Rattle.rules.specs.History.{Query, status, result, processed, job_info, memory_info, wear_info, Call, submit, releases, cancels, asks, round, Tally, History, step}
use Rattle.rules.specs.Layout.{layout_of}
use Rattle.rules.specs.Machine.{Core, due}
use Rattle.rules.specs.Memory.{Memory}

-- "per device '-', 'L', or area:type:physical:length of what runs"
pub data Shown : Type 0 where
  nothing : Shown
  locked : Shown
  request : ℕ → ℕ → ℕ → ℕ → Shown

-- "each prints its number, but accepted info prints result, processed, own, above, below, locked"; a round prints its devices
pub data Entry : Type 0 where
  number : ℕ → Entry
  devices : List Shown → Entry
  info : ℕ → ℕ → ℕ → ℕ → ℕ → ℕ → Entry

abbrev pub shown_on : Plan → (ℕ → Job) → DeviceState → Shown
shown_on p jobs Free = nothing
shown_on p jobs (LockedFor a) = locked
shown_on p jobs (Runs a polls) =
    let s = due (layout_of p) a (jobs a) in
    request a (job_type_number (jobs a).task.kind) s.start.0 s.length

-- the devices below n
unfoldable pub shown_to : Plan → Core → ℕ → List Shown
shown_to p c zero = []
shown_to p c (suc n) = shown_to p c n ++ (shown_on p c.jobs (c.devices n).state ∷ [])

abbrev pub info_entry : Job → Tally → Entry
info_entry j w = info j.result.0 j.processed w.own w.above w.below w.locked

-- the entry of an accepted call, or its number
abbrev pub entry_or : ℕ → Entry → Entry
entry_or n e = pick (eqb n 0) e (number n)

abbrev pub entry_of_query : Plan → Query → History → Entry
entry_of_query p (job_info a) h = entry_or (info_number p a) (info_entry (h.core.jobs a) (h.tallies a))
entry_of_query p (status a) h = number (info_number p a)
entry_of_query p (result a) h = number (info_number p a)
entry_of_query p (processed a) h = number (info_number p a)
entry_of_query p (memory_info a address) h = number (memory_info_number p a address)
entry_of_query p (wear_info a address) h = number (memory_info_number p a address)

-- what a call prints, from the history before it
unfoldable pub entry_of : Plan → Call → History → Entry
entry_of p (submit a t) h = number (job_number p h.core a t)
entry_of p (releases a address n) h = number (release_number p h.core a address n)
entry_of p (cancels a) h = number (cancel_number p h.core a)
entry_of p (asks q) h = entry_of_query p q h
entry_of p (round answers mem) h =
    entry_or (round_number p mem.image mem.store) (devices (shown_to p (step p (round answers mem) h).core p.device_count))

-- a line of the bench is a call, to which a round's memory is lent
pub data Line : Type 0 where
  call : Call → Line
  answers : List DeviceAnswer → Line

abbrev pub call_of : Line → Memory → Call
call_of (call c) mem = c
call_of (answers l) mem = round l mem

pub record Bench : Type 0 where
  pub history : History
  pub memory : Memory
  pub printed : List Entry

unfoldable pub play_line : Plan → Line → Bench → Bench
play_line p line b =
    let c = call_of line b.memory in
    record {
      history = step p c b.history;
      memory = call_memory p c b.history b.memory;
      printed = b.printed ++ (entry_of p c b.history ∷ []);
    }

unfoldable pub play : Plan → List Line → Bench → Bench
play p [] b = b
play p (line ∷ lines) b = play p lines (play_line p line b)
