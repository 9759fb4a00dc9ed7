-- document 00: the three demands; document 02: its requests. Each is stated once, of what is seen of a run after a list of calls: of the rules
-- (`AllDemands`) and of the program (program/Statements).
use Rattle.std.specs.Prelude.{ℕ, ◌+◌, ◌≤◌, ◌<◌, Bool, true, false, not, ◌&&◌, List, [], ◌∷◌, ◌++◌, ◌≢◌, ◌⊎◌, ◌≡◌, ltb, eqb, length, get_or, Some}
use Rattle.arith.specs.Bounded.{sum}
use Rattle.arith.specs.Cases.{pick}
use Rattle.arith.specs.Parts.{upd}
use Rattle.memory.specs.declared.DeviceAnswer.{DeviceAnswer}
use Rattle.memory.specs.declared.DeviceAnswer.TheVariants as Answers
use Rattle.memory.specs.declared.LogicalAddress.{LogicalAddress}
use Rattle.memory.specs.declared.Task.{Task}
use Rattle.plan.specs.Questions.{area_of, device_of, load_number}
use Rattle.plan.specs.Records.{plan_of}
use Rattle.plan.specs.WellFormed.{Among}
use Rattle.plan.specs.declared.records.Plan.{Plan}
use Rattle.segment.specs.Bytes.{joined, mapped_byte, mapped_bytes}
use Rattle.segment.specs.Segments.{is_lock, no_segment, segment_at, segments_from, spans, own_bound, below_bound}
use Rattle.segment.specs.declared.Segment.{Segment}
use Rattle.state.specs.declared.DeviceState.TheVariants.{Free, Runs, LockedFor}
use Rattle.state.specs.declared.Waits.{Waits}
use Rattle.rules.specs.Admission.{job_number, range_device}
use Rattle.rules.specs.Answers.{is_round, is_release}
use Rattle.rules.specs.History.{Call, submit, releases, cancels, asks, round, History, fresh_history, lent, step, run}
use Rattle.rules.specs.Layout.{priority_of, layout_of, layout_at, most_below}
use Rattle.rules.specs.Machine as Machine
use Rattle.rules.specs.Machine.{Core, doing, is_pending, is_cancelling, need, wait_of, holds}
use Rattle.rules.specs.Memory.{Memory}
use Rattle.rules.specs.Queries.{no_request, job_info_of}
use Rattle.rules.specs.Round.{answer_for, take_all}
use Rattle.rules.specs.statements.Erases.{AllWhole}
use Rattle.rules.specs.statements.DoneRounds.{done_rounds, BytesDone}
use Rattle.rules.specs.statements.Jobs.{agrees_due, JobAccepted, JobAnswered, JobWaited, JobCancelled, OfOthers}
use Rattle.rules.specs.statements.Moments.{Moment, Run}
use Rattle.rules.specs.statements.Order.{AnswerTaken, Picks, GivesWay}
use Rattle.rules.specs.statements.Pieces.{PiecesFrom}
use Rattle.rules.specs.statements.Reach.{ImageActed, image_value, StoreActed, store_value}

-- "The lent memory, which is the chip image and the job store, changes [..] only inside requests that the round finishes and the
-- rules of document 01 let change it." Core c is that before an accepted round.
pub record RoundInside (p : Plan) (c : Core) (answers : List DeviceAnswer) (before after : Memory) : Type 0 where
  -- image and store keep their lengths
  pub image_length : length after.image ≡ length before.image
  pub store_length : length after.store ≡ length before.store
  -- a byte that changes is one that a request acts on
  pub image_changed : (x : ℕ) → get_or after.image x 0 ≢ get_or before.image x 0 → (d : ℕ) × ImageActed p c answers x d
  pub store_changed : (x : ℕ) → get_or after.store x 0 ≢ get_or before.store x 0 → (d : ℕ) × StoreActed p c answers x d
  -- the round finishes the request
  pub image_finished : (x d : ℕ) → ImageActed p c answers x d → answer_for answers d ≢ Answers.Pending
  pub store_finished : (x d : ℕ) → StoreActed p c answers x d → answer_for answers d ≢ Answers.Pending

-- and in a state that calls lead to
pub record RoundChanges (p : Plan) (c : Core) (answers : List DeviceAnswer) (before after : Memory) : Type 0 where
  pub inside : RoundInside p c answers before after
  -- a byte that a request acts on becomes what the rules say
  pub image_acted : (x d : ℕ) (u : ImageActed p c answers x d) → get_or after.image x 0 ≡ image_value p c before d u.area x
  pub store_acted : (x d : ℕ) (u : StoreActed p c answers x d) → get_or after.store x 0 ≡ store_value p c before u.area x
  -- "Which bytes can an update job reach": of the image, the mapped bytes of its range
  pub image-reach : (x d : ℕ) (u : ImageActed p c answers x d) →
      (k : ℕ) × (k < (c.jobs u.area).task.length) × (mapped_byte p u.area (c.jobs u.area).task k ≡ x)
  -- of the store, the first bytes of its area's window, as many as the job has
  pub store_reach : (x d : ℕ) (u : StoreActed p c answers x d) →
      Among (area_of p.areas u.area).window.start (c.jobs u.area).task.length x
      × ((c.jobs u.area).task.length ≤ (area_of p.areas u.area).window.length)

-- what of demand 1 holds in any state, reached or not
pub record Unchanged (s : Moment) : Type 0 where
  -- "changes only in a round"
  pub other_calls : (k : Call) (mem : Memory) → is_round k ≡ false → s.memory k mem ≡ mem
  -- "a refused call leaves image, store and manager as they were"
  pub refused : (k : Call) → s.number k ≢ 0 → s.next k ≡ s.now
  pub refused_round : (answers : List DeviceAnswer) (mem : Memory) → let k = round answers mem in s.number k ≢ 0 → s.memory k mem ≡ mem

pub record Demand1 (p : Plan) (s : Moment) : Type 0 where
  pub unchanged : Unchanged s
  pub rounds : (answers : List DeviceAnswer) (mem : Memory) → let k = round answers mem in s.number k ≡ 0 →
      RoundChanges p s.now.core answers mem (s.memory k mem)

-- "Each job is cut, ordered, retried, cancelled and given its result by the rules of document 01.": area a's latest job
pub record Demand2 (p : Plan) (s : Moment) (a : ℕ) : Type 0 where
  -- "A job is cut into pieces": the requests answered done, followed by the segments still due, are the job's segments
  pub cut : let j = s.now.core.jobs a in let next = segment_at p a j.task in
      s.now.done a ++ segments_from next j.task j.processed ≡ segments_from next j.task 0
  -- of a successful job that is no lock request they are all done
  pub cut_whole : let j = s.now.core.jobs a in is_pending j ≡ false → j.result.0 ≡ 0 → is_lock j.task.kind ≡ false →
      s.now.done a ≡ segments_from (segment_at p a j.task) j.task 0
  -- and these are the pieces by the plan's records
  pub pieces : let t = (s.now.core.jobs a).task in is_lock t.kind ≡ false → PiecesFrom p a t 0 (segments_from (segment_at p a t) t 0)
  -- "requests answered done that, joined in order, are its mapped bytes": as far as it is processed
  pub joined_so_far : joined (s.now.done a) ≡ mapped_bytes p a (s.now.core.jobs a).task 0 (s.now.core.jobs a).processed
  -- "A successful job other than a lock request has requests answered done that, joined in order, are its mapped bytes"
  pub joined_whole : let j = s.now.core.jobs a in is_pending j ≡ false → j.result.0 ≡ 0 → is_lock j.task.kind ≡ false →
      joined (s.now.done a) ≡ mapped_bytes p a j.task 0 j.task.length
  -- "each once"
  pub bytes_once : let t = (s.now.core.jobs a).task in
      (x y : ℕ) → x < t.length → y < t.length → mapped_byte p a t x ≡ mapped_byte p a t y → x ≡ y
  -- accepted
  pub accepted_job : (t : Task) → s.number (submit a t) ≡ 0 → JobAccepted p a t s.now (s.next (submit a t))
  -- in an accepted round in which its request runs: retried, moved on or ended
  pub answered : (answers : List DeviceAnswer) (mem : Memory) → let k = round answers mem in s.number k ≡ 0 → (d polls : ℕ) →
      (s.now.core.devices d).state ≡ Runs a polls → let j = s.now.core.jobs a in
      JobAnswered p d a polls (answer_for answers d) (agrees_due p a j mem) j ((s.next k).core.jobs a)
  -- in one in which it does not
  pub waited : (answers : List DeviceAnswer) (mem : Memory) → let k = round answers mem in s.number k ≡ 0 →
      ((d polls : ℕ) → (s.now.core.devices d).state ≢ Runs a polls) → JobWaited (s.now.core.jobs a) ((s.next k).core.jobs a)
  -- a call of another area's job, a release or a query
  pub kept : (k : Call) → OfOthers a k → (s.next k).core.jobs a ≡ s.now.core.jobs a
  -- an accepted cancel
  pub accepted_cancel : s.number (cancels a) ≡ 0 → let j = s.now.core.jobs a in
      JobCancelled (holds a (s.now.core.devices (need (layout_of p) a j))) j ((s.next (cancels a)).core.jobs a)
  -- an accepted cancel of its area cancels a job, and nothing else does
  pub cancelled_by : (k : Call) → is_cancelling ((s.next k).core.jobs a).status ≡ true →
      (is_cancelling (s.now.core.jobs a).status ≡ true) ⊎ ((k ≡ cancels a) × (s.number (cancels a) ≡ 0))
  -- until it ends
  pub cancelled_till : (k : Call) → is_cancelling (s.now.core.jobs a).status ≡ true → is_pending ((s.next k).core.jobs a) ≡ true →
      is_cancelling ((s.next k).core.jobs a).status ≡ true

-- jobs and devices between the two halves of a round: all answers are in
abbrev pub answered_core : Plan → History → List DeviceAnswer → Memory → Core
answered_core p h answers mem = (take_all p answers p.device_count (lent mem h)).core

-- "Each job is [..] ordered": an accepted round, when the areas rank by the ages of that moment
pub record RoundOrdered (p : Plan) (s : Moment) (answers : List DeviceAnswer) (mem : Memory) : Type 0 where
  -- "First every device with a running request takes its answer."
  pub answers_in : (d : ℕ) → d < p.device_count →
      AnswerTaken (device_of p.devices d).poll_limit (answer_for answers d) (s.now.core.devices d) ((answered_core p s.now answers mem).devices d)
  -- "Then every unlocked device with nothing running picks"
  pub picks : (d : ℕ) → d < p.device_count →
      Picks (layout_at p s.now.ages) (answered_core p s.now answers mem) (s.next (round answers mem)).core d
  -- document 02, 02: where an erase runs or is suspended
  pub gives_way : (d : ℕ) → d < p.device_count →
      GivesWay (layout_at p s.now.ages) (answered_core p s.now answers mem) (s.next (round answers mem)).core d
  -- the second half changes no job but the lock requests that are given
  pub jobs : (a : ℕ) → JobWaited ((answered_core p s.now answers mem).jobs a) ((s.next (round answers mem)).core.jobs a)
  -- and no job that is ready is left on a device that is free and unlocked
  pub served : (a : ℕ) → let e = (s.next (round answers mem)).core in
      is_pending (e.jobs a) ≡ true → (e.devices (need (layout_of p) a (e.jobs a))).state ≢ Free

-- what calls that are no round do to the devices
pub record DevicesKept (p : Plan) (s : Moment) : Type 0 where
  -- "Release clears the lock."
  pub released : (a : ℕ) (address : LogicalAddress) (n : ℕ) → let k = releases a address n in s.number k ≡ 0 → let d = range_device p a address n in
      ((s.now.core.devices d).state ≡ LockedFor a)
      × ((s.next k).core.devices d ≡ doing Free (s.now.core.devices d))
      × ((e : ℕ) → e ≢ d → (s.next k).core.devices e ≡ s.now.core.devices e)
  -- nothing else does
  pub kept : (k : Call) → is_round k ≡ false → is_release k ≡ false → (s.next k).core.devices ≡ s.now.core.devices

-- area a ranks above area b: the rank by which rounds pick and count (`round_of`)
abbrev pub is_above : Plan → History → ℕ → ℕ → Bool
is_above p h = (layout_at p h.ages).outranks

-- document 02, 01: "Areas of equal priority shall be ranked by acceptance: the earlier accepted job is above."
pub record FirstCome (p : Plan) (s : Moment) : Type 0 where
  -- "the larger priority is above"
  pub larger_above : (a b : ℕ) → priority_of p b < priority_of p a → is_above p s.now a b ≡ true
  -- of two areas just one is above the other
  pub one_above : (a b : ℕ) → a ≢ b → is_above p s.now a b ≡ not (is_above p s.now b a)
  -- an accepted job, a lock request too, has every other pending job of its priority above it
  pub accepted_last : (a : ℕ) (t : Task) → s.number (submit a t) ≡ 0 → let e = s.next (submit a t) in
      (b : ℕ) → b ≢ a → is_pending (e.core.jobs b) ≡ true → priority_of p b ≡ priority_of p a → is_above p e b a ≡ true
  -- no call changes which of two pending jobs is above
  pub kept : (k : Call) (a b : ℕ) → is_pending (s.now.core.jobs a) ≡ true → is_pending (s.now.core.jobs b) ≡ true →
      is_above p (s.next k) a b ≡ is_above p s.now a b

-- The calls of a list, numbered from n on: the number of the one that accepted each area's latest job. Before call k, at history h, they
-- are `at`.
abbrev pub noted : Plan → ℕ → Call → History → (ℕ → ℕ) → ℕ → ℕ
noted p n (submit a t) h at = pick (eqb (job_number p h.core a t) 0) (upd at a n) at
noted p n (releases a address l) h at = at
noted p n (cancels a) h at = at
noted p n (asks q) h at = at
noted p n (round answers mem) h at = at

unfoldable pub accepted_from : Plan → ℕ → List Call → History → (ℕ → ℕ) → ℕ → ℕ
accepted_from p n [] h at = at
accepted_from p n (k ∷ ks) h at = accepted_from p (n + 1) ks (step p k h) (noted p n k h at)

abbrev pub accepted_at : Plan → List Call → ℕ → ℕ
accepted_at p cs = accepted_from p 0 cs fresh_history (λ a. 0)

-- "the earlier accepted job is above": of two pending jobs of one priority the one that an earlier call of the list accepted
abbrev pub ByAcceptance : Plan → History → List Call → Type 0
ByAcceptance p h cs =
    (a b : ℕ) → a ≢ b → is_pending (h.core.jobs a) ≡ true → is_pending (h.core.jobs b) ≡ true → priority_of p a ≡ priority_of p b →
    is_above p h a b ≡ ltb (accepted_at p cs a) (accepted_at p cs b)

-- document 02, 02: "The wait counts, in the wait book too, and job info take a parked erase as not running": area b's; what runs in its place
-- outranks it
pub record NotRunning (p : Plan) (h : History) (b : ℕ) : Type 0 where
  pub waits : wait_of (layout_at p h.ages) h.core b ≡ Machine.above
  -- "Request fields are 0 unless the area's request runs"
  pub request : (w : Waits) → (job_info_of p h.core w b).request ≡ no_request

-- every suspended erase
abbrev pub SuspendedNotRunning : Plan → History → Type 0
SuspendedNotRunning p h = (d b polls : ℕ) → (h.core.devices d).suspended ≡ Some (record { area = b; polls = polls }) → NotRunning p h b

-- "patience times (retries + 1), summed over the job's pieces"
abbrev pub own_most : Plan → History → ℕ → ℕ
own_most p h a = let t = (h.core.jobs a).task in own_bound (layout_of p).limit ((layout_of p).segment a t) t

-- "patience less one, summed over its stretches on one chip"; document 02, 02: "On such chips the bound on rounds below becomes twice
-- (patience less one) per stretch, for every job type" (`span_most`)
abbrev pub below_most : Plan → History → ℕ → ℕ
below_most p h a = let t = (h.core.jobs a).task in below_bound (most_below (layout_of p)) ((layout_of p).segment a t) t

-- "how long can a log write stand behind it?" A bound on above, which the papers do not ask for: each round that a job counts above is an own round
-- of a job that ranks above it. Area b's job is pending, and ranks above area a's
abbrev pub is_ahead : Plan → History → ℕ → ℕ → Bool
is_ahead p h b a = is_pending (h.core.jobs b) && is_above p h b a

-- the own bound of area b's job, if it is ahead of area a's
abbrev pub ahead_most : Plan → History → ℕ → ℕ → ℕ
ahead_most p h b a = pick (is_ahead p h b a) (own_most p h b) 0

-- A job of area a was just accepted, and before it the areas had the numbers `most`. The number of area a becomes the sum of the own bounds of the jobs
-- ahead of the new one; where the new one is ahead of a pending job, the number of that job's area grows by the own bound of the new one.
abbrev pub above_accepted : Plan → History → ℕ → (ℕ → ℕ) → ℕ → ℕ
above_accepted p h a most b =
    pick (eqb b a)
    (sum (λ i. ahead_most p h i a) p.area_count)
    (most b + pick (is_pending (h.core.jobs b)) (ahead_most p h a b) 0)

-- call k comes at history h: only an accepted job or lock changes the numbers
abbrev pub above_next : Plan → Call → History → (ℕ → ℕ) → ℕ → ℕ
above_next p (submit a t) h most = pick (eqb (job_number p h.core a t) 0) (above_accepted p (step p (submit a t) h) a most) most
above_next p (releases a address n) h most = most
above_next p (cancels a) h most = most
above_next p (asks q) h most = most
above_next p (round answers mem) h most = most

unfoldable pub above_from : Plan → List Call → History → (ℕ → ℕ) → ℕ → ℕ
above_from p [] h most = most
above_from p (k ∷ ks) h most = above_from p ks (step p k h) (above_next p k h most)

-- after a list of calls: for each area the own bounds of the jobs that were ahead of its latest job when it was accepted, or were accepted ahead of it
-- before its end
abbrev pub above_most : Plan → List Call → ℕ → ℕ
above_most p cs = above_from p cs fresh_history (λ a. 0)

-- the rounds that a job counts above are at most these
abbrev pub AboveBounded : Plan → History → List Call → Type 0
AboveBounded p h cs = (a : ℕ) → (h.tallies a).above ≤ above_most p cs a

-- "Each area's latest job has rounds = own + above + below + locked, and one more if a round ended it.": area a
pub record Demand3 (p : Plan) (h : History) (a : ℕ) : Type 0 where
  pub sum : let w = h.tallies a in w.rounds ≡ w.own + w.above + w.below + w.locked + pick w.by_round 1 0
  -- "Own is at most patience times (retries + 1), summed over the job's pieces."
  pub own : (h.tallies a).own ≤ own_most p h a
  -- "Below is at most patience less one, summed over its stretches on one chip."
  pub below : (h.tallies a).below ≤ below_most p h a

-- All of them, of run r after the calls cs
pub record Demands (p : Plan) (r : Run) (cs : List Call) : Type 0 where
  pub demand1 : Demand1 p (r cs)
  pub demand2 : (a : ℕ) → Demand2 p (r cs) a
  -- "reads bring those bytes to the store and writes take them from it": each request that was done, with the memory of its round
  pub bytes : (a : ℕ) → BytesDone p (r cs).now a (done_rounds p r cs (λ a. []) a)
  pub ordered : (answers : List DeviceAnswer) (mem : Memory) → (r cs).number (round answers mem) ≡ 0 → RoundOrdered p (r cs) answers mem
  pub devices : DevicesKept p (r cs)
  pub first_come : FirstCome p (r cs)
  pub by_acceptance : ByAcceptance p (r cs).now cs
  pub suspended : SuspendedNotRunning p (r cs).now
  pub erases : AllWhole p (r cs).now.erases
  pub demand3 : (a : ℕ) → Demand3 p (r cs).now a
  -- "how long can a log write stand behind it?" The rounds above are own rounds of the jobs ahead
  pub above-bounded : AboveBounded p (r cs).now cs

-- "This holds after every list of jobs, locks, releases, cancels, queries and rounds from an accepted load, refused ones
-- included, whatever the chips answer and whatever image and store hold."
abbrev pub AllDemands : (List ℕ → Run) → Type 0
AllDemands r = (l : List ℕ) → load_number l ≡ 0 → (cs : List Call) → Demands (plan_of l) (r l) cs

-- the segments of area a's latest job
abbrev pub segments_of : Plan → History → ℕ → List Segment
segments_of p h a = let t = (h.core.jobs a).task in segments_from ((layout_of p).segment a t) t 0

-- two of these segments have different numbers
pub record Differ (number : Segment → ℕ) (l : List Segment) : Type 0 where
  pub one : ℕ
  pub other : ℕ
  pub one_known : one < length l
  pub other_known : other < length l
  pub differ : number (get_or l one no_segment) ≢ number (get_or l other no_segment)

-- The bounds of demand 3 are sums, and a job reaches both: area a's latest one has several spans, more segments than spans, devices of different limits
-- and segments of different retries, and each count is as large as it may be.
pub record BothReached (p : Plan) (h : History) (a : ℕ) : Type 0 where
  pub spans_many : 2 ≤ length (spans (segments_of p h a))
  pub segments_more : length (spans (segments_of p h a)) < length (segments_of p h a)
  pub limits_differ : Differ (λ s. (layout_of p).limit s.device) (segments_of p h a)
  pub retries_differ : Differ (λ s. s.retries) (segments_of p h a)
  pub own_some : 1 ≤ (h.tallies a).own
  pub own_reached : (h.tallies a).own ≡ own_most p h a
  pub below_some : 1 ≤ (h.tallies a).below
  pub below_reached : (h.tallies a).below ≡ below_most p h a

-- So it is after some calls from an accepted load, on chips that can suspend, or cannot.
pub record ReachedOn (can : Bool) : Type 0 where
  pub plan : List ℕ
  pub accepted : load_number plan ≡ 0
  pub chips : (d : ℕ) → d < (plan_of plan).device_count → (layout_of (plan_of plan)).suspends d ≡ can
  pub calls : List Call
  pub area : ℕ
  pub reached : BothReached (plan_of plan) (run (plan_of plan) calls fresh_history) area

abbrev pub BoundsReached : Type 0
BoundsReached = (can : Bool) → ReachedOn can

-- The bound on above is reached too, after some calls from an accepted load.
pub record AboveReached : Type 0 where
  pub plan : List ℕ
  pub accepted : load_number plan ≡ 0
  pub calls : List Call
  pub area : ℕ
  pub some : 1 ≤ ((run (plan_of plan) calls fresh_history).tallies area).above
  pub reached : ((run (plan_of plan) calls fresh_history).tallies area).above ≡ above_most (plan_of plan) calls area
