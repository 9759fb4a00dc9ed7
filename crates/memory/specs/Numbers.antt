-- The papers' number for each case of an enum.
use Rattle.std.specs.Prelude.{ℕ, Result, Ok, Err}
use Rattle.memory.specs.declared.JobType.{JobType}
use Rattle.memory.specs.declared.JobType.TheVariants as JobTypes
use Rattle.memory.specs.declared.JobStatus.{JobStatus}
use Rattle.memory.specs.declared.JobStatus.TheVariants as Statuses
use Rattle.memory.specs.declared.Refusal.{Refusal}
use Rattle.memory.specs.declared.Refusal.TheVariants as Refusals

-- document 01: "Job types are those of 000"; 0 is 000's MEMACC_NO_JOB
abbrev pub job_type_number : JobType → ℕ
job_type_number JobTypes.NoJob = 0
job_type_number JobTypes.Write = 1
job_type_number JobTypes.Read = 2
job_type_number JobTypes.Compare = 3
job_type_number JobTypes.Erase = 4
job_type_number JobTypes.BlankCheck = 6
job_type_number JobTypes.Lock = 7

-- 000, MemAcc_JobStatusType; document 01: cancelled with a request running, "the area stays pending"
abbrev pub status_number : JobStatus → ℕ
status_number Statuses.Idle = 0
status_number Statuses.Pending = 1
status_number Statuses.Cancelling = 1

-- document 01, "Questions at the door"; document 02, 05
abbrev pub refusal_number : Refusal → ℕ
refusal_number Refusals.Records = 1
refusal_number Refusals.Counts = 2
refusal_number Refusals.Devices = 3
refusal_number Refusals.Windows = 4
refusal_number Refusals.Sizes = 5
refusal_number Refusals.Placement = 6
refusal_number Refusals.AreaSpaces = 7
refusal_number Refusals.SharedBytes = 8
refusal_number Refusals.Unsound = 9
refusal_number Refusals.UnknownArea = 10
refusal_number Refusals.Busy = 11
refusal_number Refusals.Range = 12
refusal_number Refusals.Alignment = 13
refusal_number Refusals.WindowLength = 14
refusal_number Refusals.SeveralDevices = 15
refusal_number Refusals.NotHolder = 16
refusal_number Refusals.NotPending = 17
refusal_number Refusals.ImageLength = 18
refusal_number Refusals.StoreLength = 19
refusal_number Refusals.Wear = 20

-- the answer to a call, in the code Admission
abbrev pub Answer : Type 0
Answer = Result (Unit {0}) Refusal

-- "The first 'no' gives its number." "Acceptance is 0."
abbrev pub admission_number : {T : Type 0} → Result T Refusal → ℕ
admission_number (Ok x) = 0
admission_number (Err q) = refusal_number q
