-- document 01, "Areas at rest and in work": "Loading yields a fresh area: idle, result 0, no job, all counts 0."
use Rattle.std.specs.Prelude.{None}
use Rattle.memory.specs.declared.JobType.TheVariants.{NoJob}
use Rattle.memory.specs.declared.JobStatus.TheVariants.{Idle}
use Rattle.state.specs.declared.Job.{Job}
use Rattle.state.specs.declared.Waits.{Waits}
use Rattle.state.specs.declared.Area.{Area}
use Rattle.state.specs.declared.Device.{Device}
use Rattle.state.specs.declared.DeviceState.TheVariants.{Free}

abbrev pub no_job : Job
no_job =
    record {
      task = record { kind = NoJob; address = record { 0 = 0 }; length = 0 };
      processed = 0;
      retries_left = 0;
      status = Idle;
      result = record { 0 = 0 };
    }

abbrev pub no_waits : Waits
no_waits = record { own = 0; above = 0; below = 0; locked = 0 }

abbrev pub fresh_area : Area
fresh_area = record { job = no_job; waits = no_waits }

-- nothing runs there or is suspended, and it is not locked
abbrev pub free_device : Device
free_device = record { state = Free; suspended = None }
