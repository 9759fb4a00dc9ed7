-- document 01, "Areas at rest and in work" and "A round": the machine of jobs and devices
use Rattle.std.specs.Prelude.{ℕ, zero, suc, ◌+◌, ◌-◌, Bool, true, false, not, ◌&&◌, ◌||◌, ltb, leb, eqb, Option, None, Some}
use Rattle.arith.specs.Cases.{pick}
use Rattle.arith.specs.Parts.{upd}
use Rattle.memory.specs.declared.JobStatus.{JobStatus}
use Rattle.memory.specs.declared.JobStatus.TheVariants.{Idle, Pending, Cancelling}
use Rattle.memory.specs.declared.JobType.{JobType}
use Rattle.memory.specs.declared.Task.{Task}
use Rattle.segment.specs.Segments.{is_lock, is_erase}
use Rattle.segment.specs.declared.Segment.{Segment}
use Rattle.state.specs.declared.Device.{Device}
use Rattle.state.specs.declared.DeviceState.{DeviceState}
use Rattle.state.specs.declared.SuspendedErase.{SuspendedErase}
use Rattle.state.specs.declared.DeviceState.TheVariants.{Free, Runs, LockedFor}
use Rattle.state.specs.declared.Job.{Job}
use Rattle.rules.specs.Layout.{Layout}

-- what moves: each area's latest job, and what each device does
pub record Core : Type 0 where
  pub jobs : ℕ → Job
  pub devices : ℕ → Device

-- what is suspended on a device stays
abbrev pub doing : DeviceState → Device → Device
doing x y = record { state = x; suspended = y.suspended }

abbrev pub set_state : ℕ → DeviceState → Core → Core
set_state d x c = record { jobs = c.jobs; devices = upd c.devices d (doing x (c.devices d)) }

abbrev pub set_job : ℕ → Job → Core → Core
set_job a j c = record { jobs = upd c.jobs a j; devices = c.devices }

abbrev pub set_both : ℕ → Job → ℕ → DeviceState → Core → Core
set_both a j d x c = record { jobs = upd c.jobs a j; devices = upd c.devices d (doing x (c.devices d)) }

abbrev pub set_device : ℕ → DeviceState → Option SuspendedErase → Core → Core
set_device d x s c = record { jobs = c.jobs; devices = upd c.devices d (record { state = x; suspended = s }) }

-- a cancelled job whose request still runs is pending: "the area stays pending"
abbrev pub is_pending_status : JobStatus → Bool
is_pending_status Idle = false
is_pending_status Pending = true
is_pending_status Cancelling = true

abbrev pub is_cancelling : JobStatus → Bool
is_cancelling Idle = false
is_cancelling Pending = false
is_cancelling Cancelling = true

abbrev pub is_pending : Job → Bool
is_pending j = is_pending_status j.status

-- the segment that is due; "The device a job needs is that of its first piece not yet done, or of its lock request's range."
abbrev pub due : Layout → ℕ → Job → Segment
due p a j = p.segment a j.task j.processed

abbrev pub need : Layout → ℕ → Job → ℕ
need p a j = (due p a j).device

-- "An accepted job makes its area pending and sets processed length and counts to 0; the old result stands until the job ends."
abbrev pub begun_with : ℕ → Task → Job → Job
begun_with retries t j = record { task = t; processed = 0; retries_left = retries; status = Pending; result = j.result }

abbrev pub begun : Layout → ℕ → Task → Job → Job
begun p a t j = begun_with (p.segment a t 0).retries t j

-- "After the end, the job's data stays readable"
abbrev pub ended : ℕ → Job → Job
ended r j = record { task = j.task; processed = j.processed; retries_left = j.retries_left; status = Idle; result = record { 0 = r } }

abbrev pub cancelled : Job → Job
cancelled j =
    record { task = j.task; processed = j.processed; retries_left = j.retries_left; status = Cancelling; result = j.result }

abbrev pub moved : ℕ → ℕ → Job → Job
moved x r j = record { task = j.task; processed = x; retries_left = r; status = j.status; result = j.result }

-- What a device's answer comes to: its request goes on, is finished, is finished with a byte that differs, or has failed.
pub data Verdict : Type 0 where
  goes_on : Verdict
  finished : Verdict
  differs : Verdict
  failed : Verdict

-- "with a retry left the same piece is due again, otherwise the job ends with 1"; cancelled, "the job ends with result 3 and
-- is not retried"
abbrev pub after_failed : Bool → Bool → Job → Job
after_failed cancelled noRetry j = pick cancelled (ended 3 j) (pick noRetry (ended 1 j) (moved j.processed (j.retries_left - 1) j))

unfoldable pub job_failed : Job → Job
job_failed j = after_failed (is_cancelling j.status) (eqb j.retries_left 0) j

-- "Every other done adds the piece to the processed length; after the last piece the job ends with 0."
-- x is the new processed length, r the retries of the next segment
abbrev pub after_finished : Bool → Bool → ℕ → ℕ → Job → Job
after_finished cancelled last x r j =
    pick cancelled (ended 3 (moved x j.retries_left j)) (pick last (ended 0 (moved x j.retries_left j)) (moved x r j))

unfoldable pub job_finished : Layout → ℕ → Job → Job
job_finished p a j =
    let x = j.processed + (due p a j).length in
    after_finished (is_cancelling j.status) (leb j.task.length x) x (p.segment a j.task x).retries j

-- "a differing byte, or one that is not 255, ends the job with result 2"
abbrev pub after_differs : Bool → Job → Job
after_differs cancelled j = pick cancelled (ended 3 j) (ended 2 j)

unfoldable pub job_differs : Job → Job
job_differs j = after_differs (is_cancelling j.status) j

-- "First every device with a running request takes its answer. Pending adds 1 to the request's polls; when polls reach the
-- patience it counts as failed after 0 bytes"
abbrev pub take_running : Layout → ℕ → ℕ → ℕ → Verdict → Bool → Core → Core
take_running p d a polls goes_on belowLimit c = pick belowLimit (set_state d (Runs a (polls + 1)) c) (set_both a (job_failed (c.jobs a)) d Free c)
take_running p d a polls finished belowLimit c = set_both a (job_finished p a (c.jobs a)) d Free c
take_running p d a polls differs belowLimit c = set_both a (job_differs (c.jobs a)) d Free c
take_running p d a polls failed belowLimit c = set_both a (job_failed (c.jobs a)) d Free c

-- "The answer for a device with nothing running is ignored."
abbrev pub take_on : Layout → ℕ → Verdict → DeviceState → Core → Core
take_on p d v Free c = c
take_on p d v (LockedFor a) c = c
take_on p d v (Runs a polls) c = take_running p d a polls v (ltb (polls + 1) (p.limit d)) c

unfoldable pub take_answer : Layout → ℕ → Verdict → Core → Core
take_answer p d v c = take_on p d v (c.devices d).state c

-- the first half: the devices below n have taken their answers
unfoldable pub first_half : Layout → (ℕ → Verdict) → ℕ → Core → Core
first_half p v zero c = c
first_half p v (suc n) c = take_answer p n (v n) (first_half p v n c)

-- "Then every unlocked device with nothing running picks the highest ranked area whose next piece lies on it, or whose lock
-- request names it." An area whose request runs needs the device that runs it, which is not free.
unfoldable pub ready : Layout → Core → ℕ → ℕ → Bool
ready p c d a = is_pending (c.jobs a) && eqb (need p a (c.jobs a)) d

pub data Choice : Type 0 where
  nobody : Choice
  area : ℕ → Choice

abbrev pub better : Layout → ℕ → Choice → Choice
better p a nobody = area a
better p a (area b) = pick (p.outranks a b) (area a) (area b)

-- the highest ranked of the areas below n that are ready
unfoldable pub best : Layout → Core → ℕ → ℕ → Choice
best p c d zero = nobody
best p c d (suc a) = pick (ready p c d a) (better p a (best p c d a)) (best p c d a)

-- "A piece becomes the running request with 0 polls. A lock request locks the device for that area and ends with 0."
abbrev pub start_job : ℕ → ℕ → Bool → Core → Core
start_job d a lock c = pick lock (set_both a (ended 0 (c.jobs a)) d (LockedFor a) c) (set_state d (Runs a 0) c)

abbrev pub start_choice : ℕ → Choice → Core → Core
start_choice d nobody c = c
start_choice d (area a) c = start_job d a (is_lock (c.jobs a).task.kind) c

-- document 02, 02: "its next piece is no erase"; "A lock request has no piece and parks nothing."
abbrev pub displaces : JobType → Bool
displaces k = not (is_erase k) && not (is_lock k)

-- Area b's erase, with its polls, runs or is suspended on device d; the choice is the highest ranked of all jobs there, the erase's
-- own among them. "the erase is parked with its polls kept and that piece starts"; else it goes on, or "resumes". A choice that
-- displaces is not b's, so it outranks b.
abbrev pub erase_or : ℕ → ℕ → ℕ → ℕ → Bool → Core → Core
erase_or d b polls a displacing c = pick displacing (set_device d (Runs a 0) (Some (record { area = b; polls = polls })) c) (set_device d (Runs b polls) None c)

abbrev pub erase_or_choice : ℕ → ℕ → ℕ → Choice → Core → Core
erase_or_choice d b polls nobody c = set_device d (Runs b polls) None c
erase_or_choice d b polls (area a) c = erase_or d b polls a (displaces (c.jobs a).task.kind) c

-- a request runs and nothing is suspended: an erase, on a device that can suspend it, or not
abbrev pub start_over : Layout → ℕ → ℕ → ℕ → Bool → Core → Core
start_over p d b polls suspendable c = pick suspendable (erase_or_choice d b polls (best p c d p.areas) c) c

-- "A locked device starts nothing, also for the holder." "One erase is parked per chip, no lock is given meanwhile"
abbrev pub start_on : Layout → ℕ → DeviceState → Option SuspendedErase → Core → Core
start_on p d Free None c = start_choice d (best p c d p.areas) c
start_on p d Free (Some s) c = erase_or_choice d s.area s.polls (best p c d p.areas) c
start_on p d (LockedFor a) s c = c
start_on p d (Runs b polls) None c = start_over p d b polls (p.suspends d && is_erase (c.jobs b).task.kind) c
start_on p d (Runs b polls) (Some s) c = c

unfoldable pub start_device : Layout → ℕ → Core → Core
start_device p d c = start_on p d (c.devices d).state (c.devices d).suspended c

-- the second half: the devices below n have picked
unfoldable pub second_half : Layout → ℕ → Core → Core
second_half p zero c = c
second_half p (suc n) c = start_device p n (second_half p n c)

-- "own (its request runs), above or below (another's request runs on the device it needs, by rank), or locked"
pub data Wait : Type 0 where
  own : Wait
  above : Wait
  below : Wait
  locked : Wait
  none : Wait

unfoldable pub wait_behind : Layout → ℕ → ℕ → Wait
wait_behind p a b = pick (eqb b a) own (pick (p.outranks b a) above below)

abbrev pub wait_on : Layout → ℕ → DeviceState → Wait
wait_on p a Free = none
wait_on p a (LockedFor b) = locked
wait_on p a (Runs b polls) = wait_behind p a b

-- which wait area a's pending job has
abbrev pub wait_of : Layout → Core → ℕ → Wait
wait_of p c a = wait_on p a (c.devices (need p a (c.jobs a))).state

-- does a device run area a's request, or keep it suspended?
abbrev pub runs_for : ℕ → DeviceState → Bool
runs_for a Free = false
runs_for a (LockedFor b) = false
runs_for a (Runs b polls) = eqb b a

abbrev pub kept_for : ℕ → Option SuspendedErase → Bool
kept_for a None = false
kept_for a (Some s) = eqb s.area a

abbrev pub holds : ℕ → Device → Bool
holds a x = runs_for a x.state || kept_for a x.suspended

-- "A cancel ends a job without a running request immediately, result 3. With one running, the area stays pending".
-- "a cancelled parked erase ends when its resumed request ends": held is a request that runs or is suspended.
abbrev pub cancel_if : Bool → ℕ → Core → Core
cancel_if held a c = pick held (set_job a (cancelled (c.jobs a)) c) (set_job a (ended 3 (c.jobs a)) c)

unfoldable pub cancel : Layout → ℕ → Core → Core
cancel p a c = cancel_if (holds a (c.devices (need p a (c.jobs a)))) a c

unfoldable pub begin : Layout → ℕ → Task → Core → Core
begin p a t c = set_job a (begun p a t (c.jobs a)) c

-- "Release clears the lock."
unfoldable pub release : ℕ → Core → Core
release d c = set_state d Free c
