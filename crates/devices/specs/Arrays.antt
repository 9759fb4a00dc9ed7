-- The manager's arrays as the maps that the rules see.
use Rattle.std.specs.Prelude.{ℕ, List, get_or}
use Rattle.rules.specs.Machine.{Core}
use Rattle.state.specs.Fresh.{fresh_area, free_device}
use Rattle.state.specs.declared.Area.{Area}
use Rattle.state.specs.declared.Device.{Device}
use Rattle.state.specs.declared.DeviceState.{DeviceState}
use Rattle.state.specs.declared.Job.{Job}

-- an area's job, a device, and what it does, in the manager's arrays
abbrev pub job_in : List Area → ℕ → Job
job_in l a = (get_or l a fresh_area).job

abbrev pub device_in : List Device → ℕ → Device
device_in l d = get_or l d free_device

abbrev pub state_in : List Device → ℕ → DeviceState
state_in l d = (device_in l d).state

-- jobs and devices, as the rules see them
abbrev pub core_in : List Area → List Device → Core
core_in areas devices = record { jobs = job_in areas; devices = device_in devices }
