-- document 01, "Queries (status, result, processed length, job info (..), memory info of 000)", and document 02, 05: their answers as they cross to C and
-- Rust, with the papers' numbers for enums. What each gives is said in crate manager.
use Rattle.std.specs.Prelude.{ℕ}
use Rattle.manager.specs.Calls.{info_number_of, status_of, result_of, processed_of, info_of, memory_info_number_of, memory_of_area, wear_of_area}
use Rattle.manager.specs.declared.Manager.{Manager}
use Rattle.memory.specs.Numbers.{job_type_number}
use Rattle.memory.specs.declared.LogicalAddress.{LogicalAddress}
use Rattle.state.specs.declared.JobInfo.{JobInfo}
use Rattle.state.specs.declared.MemoryInfo.{MemoryInfo}
use Rattle.state.specs.declared.WearInfo.{WearInfo}
use Rattle.interface.specs.declared.query_views.StatusView.{StatusView}
use Rattle.interface.specs.declared.query_views.ResultView.{ResultView}
use Rattle.interface.specs.declared.query_views.ProcessedView.{ProcessedView}
use Rattle.interface.specs.declared.query_views.JobInfoView.{JobInfoView}
use Rattle.interface.specs.declared.query_views.MemoryInfoView.{MemoryInfoView}
use Rattle.interface.specs.declared.query_views.WearInfoView.{WearInfoView}
use Rattle.interface.specs.declared.query_views.QueryView.{QueryView}

abbrev pub status_view : Manager → ℕ → StatusView
status_view m a = record { number = info_number_of m a; status = status_of m a }

abbrev pub result_view : Manager → ℕ → ResultView
result_view m a = record { number = info_number_of m a; result = result_of m a }

abbrev pub processed_view : Manager → ℕ → ProcessedView
processed_view m a = record { number = info_number_of m a; processed = processed_of m a }

-- "job info (type, address, length, result, processed length, counts, request's device, physical address, length, polls)"
abbrev pub numbered_job_info : ℕ → JobInfo → JobInfoView
numbered_job_info n i =
    record {
      number = n;
      kind = job_type_number i.task.kind;
      address = i.task.address;
      length = i.task.length;
      result = i.result;
      processed = i.processed;
      waits = i.waits;
      request_device = i.request.device;
      request_start = i.request.start;
      request_length = i.request.length;
      request_polls = i.request.polls;
    }

abbrev pub job_info_view : Manager → ℕ → JobInfoView
job_info_view m a = numbered_job_info (info_number_of m a) (info_of m a)

-- "memory info of 000"
abbrev pub numbered_memory_info : ℕ → MemoryInfo → MemoryInfoView
numbered_memory_info n i =
    record {
      number = n;
      logical_start = i.logical_start;
      physical_start = i.physical_start;
      max_offset = i.max_offset;
      erase = i.erase;
      write = i.write;
      read = i.read;
      device = i.device;
    }

abbrev pub memory_info_view : Manager → ℕ → LogicalAddress → MemoryInfoView
memory_info_view m a address = numbered_memory_info (memory_info_number_of m a address) (memory_of_area m a address)

-- document 02, 05: a query "addressed and refused like memory info"
abbrev pub numbered_wear_info : ℕ → WearInfo → WearInfoView
numbered_wear_info n i = record { number = n; sum = i.sum; charge = i.charge }

abbrev pub wear_info_view : Manager → ℕ → LogicalAddress → WearInfoView
wear_info_view m a address = numbered_wear_info (memory_info_number_of m a address) (wear_of_area m a address)

-- every query of one area, memory and wear info at one address
unfoldable pub query_view : Manager → ℕ → LogicalAddress → QueryView
query_view m a address =
    record {
      status = status_view m a;
      result = result_view m a;
      processed = processed_view m a;
      job_info = job_info_view m a;
      memory_info = memory_info_view m a address;
      wear_info = wear_info_view m a address;
    }
