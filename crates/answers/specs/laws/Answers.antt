-- What a device's answer makes of the device, and of area, due segment and memory of its request.
use Rattle.std.specs.Prelude.{ℕ, ◌+◌, ◌≤◌, List, leb, length}
use Rattle.memory.specs.declared.DeviceAnswer.{DeviceAnswer}
use Rattle.plan.specs.declared.records.AreaRecord.{AreaRecord}
use Rattle.plan.specs.declared.records.DeviceRecord.{DeviceRecord}
use Rattle.plan.specs.declared.records.SubAreaRecord.{SubAreaRecord}
use Rattle.rules.specs.Machine.{Verdict}
use Rattle.rules.specs.Memory.{Memory, verdict_of, answered_memory}
use Rattle.segment.specs.declared.Segment.{Segment}
use Rattle.state.specs.declared.Area.{Area}
use Rattle.state.specs.declared.DeviceState.{DeviceState}
use Rattle.state.specs.declared.DeviceState.TheVariants.{Free, Runs, LockedFor}
use Rattle.effects.specs.Effects.{lent_end}
use Rattle.requests.specs.Requests.{taken_state, taken_with, due_with, next_of}

-- image and store hold what a running request needs of them
abbrev pub Lent : AreaRecord → Area → Segment → List ℕ → List ℕ → DeviceState → Type 0
Lent place x s image store Free = Unit
Lent place x s image store (LockedFor a) = Unit
Lent place x s image store (Runs a polls) =
    (s.start.0 + s.length ≤ length image)
    × (lent_end x.job.task.kind (place.window.start + x.job.processed) s.length ≤ length store)
    × (x.job.processed + s.length ≤ x.job.task.length)

-- what answer y comes to
abbrev turn_verdict : AreaRecord → Area → Segment → DeviceAnswer → Memory → Verdict
turn_verdict place x s y m = verdict_of y x.job.task.kind s.start.0 (place.window.start + x.job.processed) s.length m

-- area, due segment, device and memory after the answer
abbrev pub turn_area : List SubAreaRecord → ℕ → AreaRecord → DeviceRecord → Area → Segment → DeviceAnswer → Memory → DeviceState → Area
turn_area l n place holder x s y m Free = x
turn_area l n place holder x s y m (LockedFor a) = x
turn_area l n place holder x s y m (Runs a polls) =
    record {
      job = taken_with s.length (next_of y l n place.start.0 a x.job s).retries (turn_verdict place x s y m) (leb holder.poll_limit (polls + 1)) x.job;
      waits = x.waits;
    }

abbrev pub turn_due : List SubAreaRecord → ℕ → AreaRecord → Area → Segment → DeviceAnswer → Memory → DeviceState → Segment
turn_due l n place x s y m Free = s
turn_due l n place x s y m (LockedFor a) = s
turn_due l n place x s y m (Runs a polls) = due_with s (next_of y l n place.start.0 a x.job s) (turn_verdict place x s y m)

abbrev pub turn_state : AreaRecord → DeviceRecord → Area → Segment → DeviceAnswer → Memory → DeviceState → DeviceState
turn_state place holder x s y m Free = Free
turn_state place holder x s y m (LockedFor a) = LockedFor a
turn_state place holder x s y m (Runs a polls) = taken_state a polls (turn_verdict place x s y m) (leb holder.poll_limit (polls + 1))

abbrev pub turn_memory : AreaRecord → DeviceRecord → Area → Segment → DeviceAnswer → Memory → DeviceState → Memory
turn_memory place holder x s y m Free = m
turn_memory place holder x s y m (LockedFor a) = m
turn_memory place holder x s y m (Runs a polls) =
    answered_memory holder.clears y x.job.task.kind s.start.0 (place.window.start + x.job.processed) s.length m
