-- document 01, "Queries": what the accepted ones give
use Rattle.std.specs.Prelude.{ℕ, ◌-◌, Some, None, eqb}
use Rattle.std.specs.declared.option.Option.{Option}
use Rattle.memory.specs.declared.LogicalAddress.{LogicalAddress}
use Rattle.plan.specs.Questions.{sub_area_of, size_of}
use Rattle.plan.specs.Records.{no_granularity}
use Rattle.plan.specs.declared.records.Plan.{Plan}
use Rattle.plan.specs.declared.records.SubAreaRecord.{SubAreaRecord}
use Rattle.arith.specs.Cases.{pick}
use Rattle.segment.specs.Mapping.{mapped}
use Rattle.segment.specs.declared.FoundByte.{FoundByte}
use Rattle.segment.specs.declared.Segment.{Segment}
use Rattle.state.specs.declared.DeviceState.{DeviceState}
use Rattle.state.specs.declared.DeviceState.TheVariants.{Free, Runs, LockedFor}
use Rattle.state.specs.declared.JobInfo.{JobInfo}
use Rattle.state.specs.declared.MemoryInfo.{MemoryInfo}
use Rattle.state.specs.declared.RequestInfo.{RequestInfo}
use Rattle.state.specs.declared.Waits.{Waits}
use Rattle.rules.specs.Layout.{layout_of}
use Rattle.rules.specs.Machine.{Core, due, need}

abbrev pub no_request : RequestInfo
no_request = record { device = 0; start = record { 0 = 0 }; length = 0; polls = 0 }

-- "Request fields are 0 unless the area's request runs; the hardware id is the device number."
abbrev pub request_on : ℕ → Segment → DeviceState → RequestInfo
request_on a s Free = no_request
request_on a s (LockedFor b) = no_request
request_on a s (Runs b polls) = pick (eqb b a) (record { device = s.device; start = s.start; length = s.length; polls = polls }) no_request

-- "job info (type, address, length, result, processed length, counts, request's device, physical address, length, polls)"
unfoldable pub job_info_of : Plan → Core → Waits → ℕ → JobInfo
job_info_of p c w a =
    let j = c.jobs a in
    record {
      task = j.task;
      result = j.result;
      processed = j.processed;
      waits = w;
      request = request_on a (due (layout_of p) a j) (c.devices (need (layout_of p) a j)).state;
    }

-- "memory info of 000": of the sub-area that holds the address. The logical start of that sub-area is the address less its offset there.
abbrev pub memory_info_in : LogicalAddress → SubAreaRecord → ℕ → MemoryInfo
memory_info_in address s y =
    record {
      logical_start = record { 0 = address.0 - y };
      physical_start = record { 0 = s.start };
      max_offset = size_of s - 1;
      erase = s.erase;
      write = s.write;
      read = s.read;
      device = s.device;
    }

abbrev pub no_memory_info : MemoryInfo
no_memory_info =
    record {
      logical_start = record { 0 = 0 };
      physical_start = record { 0 = 0 };
      max_offset = 0;
      erase = no_granularity;
      write = no_granularity;
      read = no_granularity;
      device = 0;
    }

abbrev pub memory_info_at : Plan → LogicalAddress → Option FoundByte → MemoryInfo
memory_info_at p address None = no_memory_info
memory_info_at p address (Some byte) = memory_info_in address (sub_area_of p.sub_areas byte.sub_area) byte.offset

unfoldable pub memory_info_of : Plan → ℕ → LogicalAddress → MemoryInfo
memory_info_of p a address = memory_info_at p address (mapped p a address)
