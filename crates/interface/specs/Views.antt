-- The structs that cross to C and Rust, with the papers' numbers for enums.
use Rattle.std.specs.Prelude.{ℕ, List, ◌≡◌, get_or, Option, None, Some}
use Rattle.arith.specs.Tables.{table}
use Rattle.manager.specs.Load.{loaded_manager}
use Rattle.manager.specs.declared.Manager.{Manager}
use Rattle.memory.specs.Numbers.{job_type_number, status_number}
use Rattle.plan.specs.Questions.{load_number}
use Rattle.state.specs.Fresh.{fresh_area, free_device}
use Rattle.state.specs.declared.Job.{Job}
use Rattle.state.specs.declared.Area.{Area}
use Rattle.state.specs.declared.Device.{Device}
use Rattle.state.specs.declared.DeviceState.{DeviceState}
use Rattle.state.specs.declared.DeviceState.TheVariants.{Free, Runs, LockedFor}
use Rattle.state.specs.declared.SuspendedErase.{SuspendedErase}
use Rattle.interface.specs.declared.JobView.{JobView}
use Rattle.interface.specs.declared.AreaView.{AreaView}
use Rattle.interface.specs.declared.StateView.{StateView}
use Rattle.interface.specs.declared.DeviceView.{DeviceView}
use Rattle.interface.specs.declared.LoadView.{LoadView}

abbrev pub job_view : Job → JobView
job_view j =
    record {
      kind = job_type_number j.task.kind;
      status = status_number j.status;
      result = j.result;
      retries_left = j.retries_left;
      address = j.task.address;
      length = j.task.length;
      processed = j.processed;
    }

abbrev pub area_view : Area → AreaView
area_view a = record { job = job_view a.job; waits = a.waits }

abbrev pub no_area_view : AreaView
no_area_view = area_view fresh_area

abbrev pub no_state_view : StateView
no_state_view = record { state = 0; area = 0; polls = 0 }

abbrev pub state_view : DeviceState → StateView
state_view Free = no_state_view
state_view (Runs a n) = record { state = 1; area = a; polls = n }
state_view (LockedFor a) = record { state = 2; area = a; polls = 0 }

abbrev pub kept_view : Option SuspendedErase → StateView
kept_view None = no_state_view
kept_view (Some s) = record { state = 1; area = s.area; polls = s.polls }

abbrev pub device_view : Device → DeviceView
device_view d = record { does = state_view d.state; suspended = kept_view d.suspended }

abbrev pub no_device_view : DeviceView
no_device_view = device_view free_device

abbrev pub area_views : List Area → List AreaView
area_views l = table 8 (λ i. area_view (get_or l i fresh_area)) no_area_view 8

abbrev pub device_views : List Device → List DeviceView
device_views l = table 4 (λ i. device_view (get_or l i free_device)) no_device_view 4

-- the number and the manager of a load
unfoldable pub load_view : List ℕ → LoadView
load_view l =
    let m = loaded_manager l in
    record { number = load_number l; plan = m.plan; areas = area_views m.areas; devices = device_views m.devices; ages = m.ages; wear = m.wear }

-- the view by its parts
pub view_is : (l : List ℕ) (n : ℕ) (m : Manager) → n ≡ load_number l → m ≡ loaded_manager l →
    record { number = n; plan = m.plan; areas = area_views m.areas; devices = device_views m.devices; ages = m.ages; wear = m.wear } ≡ load_view l
unfolding load_view
view_is l n m e f = rw (e, f)
