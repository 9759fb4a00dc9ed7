-- document 01, "The plan": the records, and what a plan's bytes hold
use Rattle.std.specs.Prelude.{ℕ, zero, suc, ◌+◌, ◌*◌, Bool, false, ◌&&◌, ◌||◌, List, [], ◌∷◌, leb, eqb, length, get_or, replicate}
use Rattle.arith.specs.Bounded.{some}
use Rattle.arith.specs.Cases.{pick}
use Rattle.arith.specs.Tables.{table}
use Rattle.plan.specs.Number.{number_at}
use Rattle.plan.specs.declared.records.DeviceRecord.{DeviceRecord}
use Rattle.plan.specs.declared.records.AreaRecord.{AreaRecord}
use Rattle.plan.specs.declared.records.Granularity.{Granularity}
use Rattle.plan.specs.declared.records.SubAreaRecord.{SubAreaRecord}
use Rattle.plan.specs.declared.records.Plan.{Plan}
use Rattle.plan.specs.declared.records.WearRecord.{WearRecord}
use Rattle.plan.specs.declared.scan.RecordLayout.{RecordLayout}
use Rattle.plan.specs.declared.scan.RecordFormat.{RecordFormat}

-- "Device, mark hex 44 56: physical start 4, length 4, patience 2." Document 02, 02: "A device record with mark hex 44 53, laid out as before,
-- means the chip can pause."; 03: on which "a write can turn a bit from 1 to 0 and never back", mark 44 46, "which can pause too".
unfoldable pub device_at : List ℕ → ℕ → DeviceRecord
device_at l at =
    record {
      start = number_at 4 l (at + 2);
      length = number_at 4 l (at + 6);
      poll_limit = number_at 2 l (at + 10);
      suspends = eqb (get_or l (at + 1) 0) 83 || eqb (get_or l (at + 1) 0) 70;
      clears = eqb (get_or l (at + 1) 0) 70;
    }

-- "Area, mark hex 41 52: priority 2, logical start 4, window start 4, window length 4."
unfoldable pub area_at : List ℕ → ℕ → AreaRecord
area_at l at =
    record {
      priority = number_at 2 l (at + 2);
      start = record { 0 = number_at 4 l (at + 4) };
      window = record { start = number_at 4 l (at + 8); length = number_at 4 l (at + 12) };
    }

-- "sector 4, sector burst 4", "page 4, page burst 4", "smallest read 4, largest read 4"
unfoldable pub granularity_at : List ℕ → ℕ → Granularity
granularity_at l at = record { unit = number_at 4 l at; burst = number_at 4 l (at + 4) }

-- "Sub-area, mark hex 53 42: area 1, device 1, physical start 4, .., sector count 4, write retries 1, erase retries 1."
unfoldable pub sub_area_at : List ℕ → ℕ → SubAreaRecord
sub_area_at l at =
    record {
      area = number_at 1 l (at + 2);
      device = number_at 1 l (at + 3);
      start = number_at 4 l (at + 4);
      erase = granularity_at l (at + 8);
      write = granularity_at l (at + 16);
      read = granularity_at l (at + 24);
      sector_count = number_at 4 l (at + 32);
      write_retries = number_at 1 l (at + 36);
      erase_retries = number_at 1 l (at + 37);
    }

-- document 02, 05: "For each sub-area the plan may gain a record, mark hex 57 52: sub-area 1 byte, endurance 4 bytes (cycles per sector)"
unfoldable pub wear_at : List ℕ → ℕ → WearRecord
wear_at l at = record { sub_area = number_at 1 l (at + 2); endurance = number_at 4 l (at + 3) }

-- the records of all zeros: what an entry holds that is not in use
abbrev pub no_device : DeviceRecord
no_device = record { start = 0; length = 0; poll_limit = 0; suspends = false; clears = false }

abbrev pub no_area : AreaRecord
no_area = record { priority = 0; start = record { 0 = 0 }; window = record { start = 0; length = 0 } }

abbrev pub no_granularity : Granularity
no_granularity = record { unit = 0; burst = 0 }

abbrev pub no_sub_area : SubAreaRecord
no_sub_area =
    record {
      area = 0;
      device = 0;
      start = 0;
      erase = no_granularity;
      write = no_granularity;
      read = no_granularity;
      sector_count = 0;
      write_retries = 0;
      erase_retries = 0;
    }

abbrev pub no_wear : WearRecord
no_wear = record { sub_area = 0; endurance = 0 }

-- "A two-byte mark stands before each record." The bytes of a record count its mark.
abbrev pub device_format : RecordFormat
device_format = record { first = 68; seconds = 86 ∷ 83 ∷ 70 ∷ []; size = 12 }

abbrev pub area_format : RecordFormat
area_format = record { first = 65; seconds = replicate 3 82; size = 16 }

abbrev pub sub_area_format : RecordFormat
sub_area_format = record { first = 83; seconds = replicate 3 66; size = 38 }

abbrev pub wear_format : RecordFormat
wear_format = record { first = 87; seconds = replicate 3 82; size = 7 }

-- a whole record with this mark stands at `at`
unfoldable pub is_record : RecordFormat → List ℕ → ℕ → Bool
is_record f l at = leb (at + f.size) (length l) && (eqb (get_or l at 0) f.first && some (λ i. eqb (get_or l (at + 1) 0) (get_or f.seconds i 0)) 3)

-- how many such records stand one behind the other from `at` on, at most `most`
unfoldable pub records_up_to : ℕ → RecordFormat → List ℕ → ℕ → ℕ
records_up_to zero f l at = 0
records_up_to (suc most) f l at = pick (is_record f l at) (suc (records_up_to most f l (at + f.size))) 0

-- a list has fewer records than bytes
unfoldable pub records_from : RecordFormat → List ℕ → ℕ → ℕ
records_from f l at = records_up_to (length l) f l at

-- "A plan is bytes: device, then area, then sub-area records, numbered from 0 within each kind."
unfoldable pub device_count_of : List ℕ → ℕ
device_count_of l = records_from device_format l 0

unfoldable pub areas_start_of : List ℕ → ℕ
areas_start_of l = device_count_of l * 12

unfoldable pub area_count_of : List ℕ → ℕ
area_count_of l = records_from area_format l (areas_start_of l)

unfoldable pub sub_areas_start_of : List ℕ → ℕ
sub_areas_start_of l = areas_start_of l + area_count_of l * 16

unfoldable pub sub_area_count_of : List ℕ → ℕ
sub_area_count_of l = records_from sub_area_format l (sub_areas_start_of l)

-- document 02, 05: "after all others"
unfoldable pub wear_start_of : List ℕ → ℕ
wear_start_of l = sub_areas_start_of l + sub_area_count_of l * 38

unfoldable pub wear_count_of : List ℕ → ℕ
wear_count_of l = records_from wear_format l (wear_start_of l)

unfoldable pub records_end : List ℕ → ℕ
records_end l = wear_start_of l + wear_count_of l * 7

-- how many records of each kind there are, and where the kinds begin and end
unfoldable pub record_layout : List ℕ → RecordLayout
record_layout l =
    record {
      device_count = device_count_of l;
      area_count = area_count_of l;
      sub_area_count = sub_area_count_of l;
      areas_start = areas_start_of l;
      sub_areas_start = sub_areas_start_of l;
      wear_start = wear_start_of l;
      wear_count = wear_count_of l;
      end = records_end l;
    }

-- wear record i
abbrev pub wear_of : List ℕ → ℕ → WearRecord
wear_of l i = wear_at l (wear_start_of l + i * 7)

-- the endurance of sub-area s by the first n of these records; 0 where none of them names it
unfoldable pub endurance_by : (ℕ → WearRecord) → ℕ → ℕ → ℕ
endurance_by w zero s = 0
endurance_by w (suc n) s = pick (eqb (w n).sub_area s) (w n).endurance (endurance_by w n s)

-- the plan's records; entries not in use are all zeros
unfoldable pub plan_of : List ℕ → Plan
plan_of l =
    record {
      devices = table 4 (λ i. device_at l (i * 12)) no_device (device_count_of l);
      areas = table 8 (λ i. area_at l (areas_start_of l + i * 16)) no_area (area_count_of l);
      sub_areas = table 32 (λ i. sub_area_at l (sub_areas_start_of l + i * 38)) no_sub_area (sub_area_count_of l);
      device_count = device_count_of l;
      area_count = area_count_of l;
      sub_area_count = sub_area_count_of l;
      endurance = table 32 (endurance_by (wear_of l) (wear_count_of l)) 0 32;
    }

-- the plan of all zeros
unfoldable pub empty_plan : Plan
empty_plan =
    record {
      devices = replicate 4 no_device;
      areas = replicate 8 no_area;
      sub_areas = replicate 32 no_sub_area;
      device_count = 0;
      area_count = 0;
      sub_area_count = 0;
      endurance = replicate 32 0;
    }
