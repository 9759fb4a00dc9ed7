-- document 01, question 9, the soundness test. Every state that an accepted load leads to passes it (SoundLaws); what it says of other states
-- is our choice: it asks just what the code of a round rests on.
use Rattle.std.specs.Prelude.{ℕ, ◌+◌, Bool, true, not, ◌&&◌, List, ltb, leb, eqb}
use Rattle.arith.specs.Bounded.{every}
use Rattle.devices.specs.Arrays.{job_in, state_in}
use Rattle.plan.specs.Questions.{area_of, device_of, length_sum, counts_fit}
use Rattle.plan.specs.declared.records.AreaRecord.{AreaRecord}
use Rattle.plan.specs.declared.records.DeviceRecord.{DeviceRecord}
use Rattle.plan.specs.declared.records.Plan.{Plan}
use Rattle.rules.specs.Admission.{uses_window, if_asked}
use Rattle.rules.specs.Machine.{is_pending}
use Rattle.segment.specs.Segments.{is_lock, segment_at}
use Rattle.segment.specs.declared.Segment.{Segment}
use Rattle.state.specs.declared.Area.{Area}
use Rattle.state.specs.declared.Device.{Device}
use Rattle.state.specs.declared.DeviceState.{DeviceState}
use Rattle.state.specs.declared.DeviceState.TheVariants.{Free, Runs, LockedFor}
use Rattle.state.specs.declared.Job.{Job}

-- the job may have a request running, with so many polls on a device with that limit
unfoldable pub job_runs : Job → ℕ → ℕ → Bool
job_runs j polls limit = is_pending j && (not (is_lock j.task.kind) && ltb polls limit)

-- the request s of job j lies on device d, inside an image of n bytes, and in what is left of the job and of its window of w bytes
unfoldable pub segment_fits : ℕ → ℕ → ℕ → Job → Segment → Bool
segment_fits n w d j s =
    eqb s.device d
    && (leb (s.start.0 + s.length) n
    && (leb (j.processed + s.length) j.task.length
    && if_asked (uses_window j.task.kind) (leb (j.processed + s.length) w)))

-- device d may run the request of area a, whose job is j and whose due segment is s
abbrev pub request_fits : ℕ → DeviceRecord → ℕ → AreaRecord → ℕ → Job → Segment → ℕ → ℕ → Bool
request_fits n holder areas place d j s a polls = ltb a areas && (job_runs j polls holder.poll_limit && segment_fits n place.window.length d j s)

unfoldable pub request_sound : Plan → ℕ → ℕ → ℕ → Job → Bool
request_sound p d a polls j =
    request_fits (length_sum p.devices p.device_count) (device_of p.devices d) p.area_count (area_of p.areas a) d j
    (segment_at p a j.task j.processed) a polls

abbrev pub state_sound : Plan → ℕ → (ℕ → Job) → DeviceState → Bool
state_sound p d jobs Free = true
state_sound p d jobs (LockedFor a) = true
state_sound p d jobs (Runs a polls) = request_sound p d a polls (jobs a)

-- "Does the state pass the team's soundness test?" The manager of all zeros has no device, so it does not.
unfoldable pub is_sound : Plan → List Area → List Device → Bool
is_sound p areas devices =
    counts_fit p.device_count p.area_count p.sub_area_count
    && every (λ d. state_sound p d (job_in areas) (state_in devices d)) p.device_count
