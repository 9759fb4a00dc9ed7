-- document 01: what each call on a manager answers and leaves. The rules (crate rules) say it of jobs and devices; here they are
-- read in the manager's arrays and written back.
use Rattle.std.specs.Prelude.{ℕ, Bool, List, ◌∷◌, set}
use Rattle.arith.specs.Cases.{pick}
use Rattle.arith.specs.FirstNo.{first_no}
use Rattle.arith.specs.Tables.{table}
use Rattle.devices.specs.Arrays.{core_in}
use Rattle.machine.specs.Sound.{is_sound}
use Rattle.memory.specs.Numbers.{job_type_number, status_number}
use Rattle.memory.specs.declared.DeviceAnswer.{DeviceAnswer}
use Rattle.memory.specs.declared.JobResult.{JobResult}
use Rattle.memory.specs.declared.LogicalAddress.{LogicalAddress}
use Rattle.memory.specs.declared.Task.{Task}
use Rattle.plan.specs.declared.records.Plan.{Plan}
use Rattle.changes.specs.Accepted.{if_accepted}
use Rattle.changes.specs.declared.Change.{Change}
use Rattle.close.specs.Close.{waits_in, areas_after, devices_after, wear_after_round, halves_of}
use Rattle.rules.specs.Admission.{range_device, job_questions, release_questions, cancel_questions, info_questions, memory_info_questions, round_number}
use Rattle.rules.specs.Layout.{Layout, layout_of, layout_at}
use Rattle.rules.specs.Machine.{Core, begin, cancel, release}
use Rattle.rules.specs.Memory.{Memory}
use Rattle.rules.specs.Ranks.{ages_after}
use Rattle.rules.specs.Queries.{no_request, job_info_of, no_memory_info, memory_info_of}
use Rattle.rules.specs.Wear.{no_wear_info, worn_at, wear_info_of}
use Rattle.state.specs.Ages.{age_in}
use Rattle.state.specs.Fresh.{no_job, no_waits}
use Rattle.state.specs.declared.Area.{Area}
use Rattle.state.specs.declared.Device.{Device}
use Rattle.state.specs.declared.Job.{Job}
use Rattle.state.specs.declared.JobInfo.{JobInfo}
use Rattle.state.specs.declared.MemoryInfo.{MemoryInfo}
use Rattle.state.specs.declared.Waits.{Waits}
use Rattle.state.specs.declared.WearInfo.{WearInfo}
use Rattle.manager.specs.declared.Manager.{Manager}

-- jobs and devices, as the rules see them
abbrev pub core_of : Manager → Core
core_of m = core_in m.areas m.devices

-- the plan with the rank of the moment
abbrev pub ranked_of : Manager → Layout
ranked_of m = layout_at m.plan (age_in m.ages)

-- question 9, then those of the call: "The first 'no' gives its number."
abbrev pub sound_number : Manager → List Bool → ℕ
sound_number m questions = first_no 9 (is_sound m.plan m.areas m.devices ∷ questions)

abbrev pub with_area : ℕ → Job → Waits → Manager → Manager
with_area a j w m =
    record {
      plan = m.plan;
      areas = set m.areas a (record { job = j; waits = w });
      devices = m.devices;
      ages = m.ages;
      wear = m.wear;
    }

-- area a with a job that was accepted: also "the order in which pending jobs were accepted" (document 02, 01)
abbrev pub with_accepted : ℕ → Job → Waits → Manager → Manager
with_accepted a j w m =
    record {
      plan = m.plan;
      areas = set m.areas a (record { job = j; waits = w });
      devices = m.devices;
      ages = table 8 (ages_after a (age_in m.ages)) 0 8;
      wear = m.wear;
    }

abbrev pub with_device : ℕ → Device → Manager → Manager
with_device d x m = record { plan = m.plan; areas = m.areas; devices = set m.devices d x; ages = m.ages; wear = m.wear }

-- a manager of its parts, as an owner who keeps it in one place hands them to a call
abbrev pub manager_of : Plan → List Area → List Device → List ℕ → List ℕ → Manager
manager_of p areas devices ages wear = record { plan = p; areas = areas; devices = devices; ages = ages; wear = wear }

-- what a call hands back to that owner, written back
abbrev pub changed : Manager → Change → Manager
changed m c =
    record {
      plan = m.plan;
      areas = set m.areas c.area_number c.area;
      devices = set m.devices c.device_number c.device;
      ages = c.ages;
      wear = m.wear;
    }

-- one of the five jobs, or a lock request: "An accepted job makes its area pending and sets processed length and counts to 0"
unfoldable pub job_number_of : Manager → ℕ → Task → ℕ
job_number_of m a t = sound_number m (job_questions m.plan (core_of m) a t)

unfoldable pub after_job : Manager → ℕ → Task → Manager
after_job m a t = if_accepted (job_number_of m a t) (with_accepted a ((begin (layout_of m.plan) a t (core_of m)).jobs a) no_waits m) m

-- a release: "Release clears the lock."
unfoldable pub release_number_of : Manager → ℕ → LogicalAddress → ℕ → ℕ
release_number_of m a address n = sound_number m (release_questions m.plan (core_of m) a address n)

unfoldable pub after_release : Manager → ℕ → LogicalAddress → ℕ → Manager
after_release m a address n =
    let d = range_device m.plan a address n in
    if_accepted (release_number_of m a address n) (with_device d ((release d (core_of m)).devices d) m) m

-- a cancel
unfoldable pub cancel_number_of : Manager → ℕ → ℕ
cancel_number_of m a = sound_number m (cancel_questions m.plan (core_of m) a)

unfoldable pub after_cancel : Manager → ℕ → Manager
after_cancel m a = if_accepted (cancel_number_of m a) (with_area a ((cancel (layout_of m.plan) a (core_of m)).jobs a) (waits_in m.areas a) m) m

-- queries: they leave the manager as it is
unfoldable pub info_number_of : Manager → ℕ → ℕ
info_number_of m a = sound_number m (info_questions m.plan a)

unfoldable pub status_of : Manager → ℕ → ℕ
status_of m a = if_accepted (info_number_of m a) (status_number ((core_of m).jobs a).status) 0

unfoldable pub result_of : Manager → ℕ → JobResult
result_of m a = if_accepted (info_number_of m a) ((core_of m).jobs a).result (record { 0 = 0 })

unfoldable pub processed_of : Manager → ℕ → ℕ
processed_of m a = if_accepted (info_number_of m a) ((core_of m).jobs a).processed 0

abbrev pub no_job_info : JobInfo
no_job_info = record { task = no_job.task; result = record { 0 = 0 }; processed = 0; waits = no_waits; request = no_request }

unfoldable pub info_of : Manager → ℕ → JobInfo
info_of m a = if_accepted (info_number_of m a) (job_info_of m.plan (core_of m) (waits_in m.areas a) a) no_job_info

-- the type in it: "Job types are those of 000"
unfoldable pub job_type_of : Manager → ℕ → ℕ
job_type_of m a = if_accepted (info_number_of m a) (job_type_number ((core_of m).jobs a).task.kind) 0

unfoldable pub memory_info_number_of : Manager → ℕ → LogicalAddress → ℕ
memory_info_number_of m a address = sound_number m (memory_info_questions m.plan a address)

unfoldable pub memory_of_area : Manager → ℕ → LogicalAddress → MemoryInfo
memory_of_area m a address = if_accepted (memory_info_number_of m a address) (memory_info_of m.plan a address) no_memory_info

-- document 02, 05: a query "addressed and refused like memory info"
unfoldable pub wear_of_area : Manager → ℕ → LogicalAddress → WearInfo
wear_of_area m a address = if_accepted (memory_info_number_of m a address) (wear_info_of m.plan (worn_at m.wear) a address) no_wear_info

-- a round: "(round; after 9)", 18 and 19
unfoldable pub round_number_of : Manager → Memory → ℕ
round_number_of m lent = pick (is_sound m.plan m.areas m.devices) (round_number m.plan lent.image lent.store) 9

unfoldable pub after_round : Manager → List DeviceAnswer → Memory → Manager
after_round m answers lent =
    let after = (halves_of m.plan m.areas m.devices m.ages answers lent).core in
    if_accepted (round_number_of m lent)
    (record {
      plan = m.plan;
      areas = areas_after (ranked_of m) m.areas after;
      devices = devices_after after;
      ages = m.ages;
      wear = wear_after_round m.plan m.areas m.devices answers lent m.wear;
    })
    m

-- "lent memory untouched" where it is refused
unfoldable pub memory_after_round : Manager → List DeviceAnswer → Memory → Memory
memory_after_round m answers lent = if_accepted (round_number_of m lent) (halves_of m.plan m.areas m.devices m.ages answers lent).memory lent
