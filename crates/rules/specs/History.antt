-- document 01, "The wait book": the wait history, a definition over the plan and the arguments of the calls. It holds its own
-- state and reads no manager and no answer.
use Rattle.std.specs.Prelude.{ℕ, ◌+◌, Bool, true, false, List, [], ◌∷◌, ◌++◌, eqb}
use Rattle.arith.specs.Cases.{pick}
use Rattle.arith.specs.Parts.{upd}
use Rattle.memory.specs.declared.DeviceAnswer.{DeviceAnswer}
use Rattle.memory.specs.declared.LogicalAddress.{LogicalAddress}
use Rattle.memory.specs.declared.Task.{Task}
use Rattle.plan.specs.declared.records.Plan.{Plan}
use Rattle.segment.specs.declared.Segment.{Segment}
use Rattle.state.specs.Fresh.{no_job, free_device}
use Rattle.rules.specs.Ranks.{ages_after}
use Rattle.rules.specs.Layout.{layout_of, layout_at}
use Rattle.rules.specs.Machine.{Core, Wait, own, above, below, locked, none, is_pending, wait_of, begin, cancel, release}
use Rattle.rules.specs.Memory.{Memory}
use Rattle.rules.specs.Admission.{range_device, job_number, release_number, cancel_number, round_number}
use Rattle.rules.specs.Round.{Half, round_erases, round_halves}

pub data Query : Type 0 where
  status : ℕ → Query
  result : ℕ → Query
  processed : ℕ → Query
  job_info : ℕ → Query
  memory_info : ℕ → LogicalAddress → Query
  wear_info : ℕ → LogicalAddress → Query

-- A call with its arguments; a job is one of the five or a lock request. "image and store may come with any length and bytes
-- at each call"
pub data Call : Type 0 where
  submit : ℕ → Task → Call
  releases : ℕ → LogicalAddress → ℕ → Call
  cancels : ℕ → Call
  asks : Query → Call
  round : List DeviceAnswer → Memory → Call

-- "rounds, own, above, below and locked, numbers without a limit", and "whether a round ended it"
pub record Tally : Type 0 where
  pub rounds : ℕ
  pub own : ℕ
  pub above : ℕ
  pub below : ℕ
  pub locked : ℕ
  pub by_round : Bool

abbrev pub no_tally : Tally
no_tally = record { rounds = 0; own = 0; above = 0; below = 0; locked = 0; by_round = false }

-- beside what the paper lists, the requests of each area's latest job that were done (demand 2), and the erases of all jobs that were done
-- (document 02, 05), the newest first
pub record History : Type 0 where
  pub core : Core
  -- document 02, 01: "the order in which pending jobs were accepted", as the areas' ages (Ranks)
  pub ages : ℕ → ℕ
  pub tallies : ℕ → Tally
  pub done : ℕ → List Segment
  pub erases : List Segment

-- "At the start nothing runs, is locked or pending, and the numbers are 0." No two areas have one age; which is the older does not
-- matter, as none is pending.
unfoldable pub fresh_history : History
fresh_history =
    record {
      core = record { jobs = λ a. no_job; devices = λ d. free_device };
      ages = λ a. a;
      tallies = λ a. no_tally;
      done = λ a. [];
      erases = [];
    }

-- one round more, with its wait
abbrev pub count : Wait → Tally → Tally
count own w = record { rounds = w.rounds + 1; own = w.own + 1; above = w.above; below = w.below; locked = w.locked; by_round = w.by_round }
count above w = record { rounds = w.rounds + 1; own = w.own; above = w.above + 1; below = w.below; locked = w.locked; by_round = w.by_round }
count below w = record { rounds = w.rounds + 1; own = w.own; above = w.above; below = w.below + 1; locked = w.locked; by_round = w.by_round }
count locked w = record { rounds = w.rounds + 1; own = w.own; above = w.above; below = w.below; locked = w.locked + 1; by_round = w.by_round }
count none w = record { rounds = w.rounds + 1; own = w.own; above = w.above; below = w.below; locked = w.locked; by_round = w.by_round }

-- "An accepted round adds 1 to the rounds of every pending job, then does its two halves. A job that they end was ended by a
-- round. Each job still pending adds 1 to" one count.
abbrev pub close : Bool → Bool → Wait → Tally → Tally
close before still k w =
    pick before
    (pick still (count k w)
    (record { rounds = w.rounds + 1; own = w.own; above = w.above; below = w.below; locked = w.locked; by_round = true }))
    w

-- a history with the memory that is lent to a round
abbrev pub lent : Memory → History → Half
lent mem h = record { core = h.core; memory = mem; done = h.done }

unfoldable pub round_of : Plan → List DeviceAnswer → Memory → History → History
round_of p answers mem h =
    let after = round_halves p h.ages answers (lent mem h) in
    record {
      core = after.core;
      ages = h.ages;
      tallies = λ a. close (is_pending (h.core.jobs a)) (is_pending (after.core.jobs a)) (wait_of (layout_at p h.ages) after.core a) (h.tallies a);
      done = after.done;
      erases = round_erases p answers (lent mem h) ++ h.erases;
    }

-- "a job or lock sets its area's five numbers to 0"
unfoldable pub submitted : Plan → ℕ → Task → History → History
submitted p a t h =
    record {
      core = begin (layout_of p) a t h.core;
      ages = ages_after a h.ages;
      tallies = upd h.tallies a no_tally;
      done = upd h.done a [];
      erases = h.erases;
    }

abbrev pub with_core : Core → History → History
with_core c h = record { core = c; ages = h.ages; tallies = h.tallies; done = h.done; erases = h.erases }

-- "A refused call or a query changes nothing." "9 refuses nothing here."
unfoldable pub step : Plan → Call → History → History
step p (submit a t) h = pick (eqb (job_number p h.core a t) 0) (submitted p a t h) h
step p (releases a address n) h =
    pick (eqb (release_number p h.core a address n) 0) (with_core (release (range_device p a address n) h.core) h) h
step p (cancels a) h = pick (eqb (cancel_number p h.core a) 0) (with_core (cancel (layout_of p) a h.core) h) h
step p (asks q) h = h
step p (round answers mem) h = pick (eqb (round_number p mem.image mem.store) 0) (round_of p answers mem h) h

-- "Demand 3 is a single claim about the whole list of calls"
unfoldable pub run : Plan → List Call → History → History
run p [] h = h
run p (c ∷ cs) h = run p cs (step p c h)
