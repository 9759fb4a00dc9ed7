-- document 01, "Questions at the door", loading: questions 1 to 8; document 02, 05: question 20
use Rattle.std.specs.Prelude.{ℕ, zero, suc, ◌+◌, ◌-◌, ◌*◌, Bool, not, ◌&&◌, ◌||◌, List, [], ◌∷◌, ltb, leb, eqb, length, get_or}
use Rattle.arith.specs.Bounded.{every, every_pair, some, sum}
use Rattle.arith.specs.Cases.{pick}
use Rattle.arith.specs.FirstNo.{first_no, ask, or_else}
use Rattle.arith.specs.Multiples.{multiple}
use Rattle.plan.specs.Records.{no_device, no_area, no_sub_area, plan_of, empty_plan, records_end, sub_area_count_of, wear_count_of, wear_of}
use Rattle.plan.specs.declared.records.DeviceRecord.{DeviceRecord}
use Rattle.plan.specs.declared.records.AreaRecord.{AreaRecord}
use Rattle.plan.specs.declared.records.Granularity.{Granularity}
use Rattle.plan.specs.declared.records.SubAreaRecord.{SubAreaRecord}
use Rattle.plan.specs.declared.records.Plan.{Plan}
use Rattle.plan.specs.declared.records.WearRecord.{WearRecord}

-- record i of each kind
abbrev pub device_of : List DeviceRecord → ℕ → DeviceRecord
device_of l i = get_or l i no_device

abbrev pub area_of : List AreaRecord → ℕ → AreaRecord
area_of l i = get_or l i no_area

abbrev pub sub_area_of : List SubAreaRecord → ℕ → SubAreaRecord
sub_area_of l i = get_or l i no_sub_area

-- the `n` bytes from `s` on and the `m` bytes from `t` on share no byte
unfoldable pub apart : ℕ → ℕ → ℕ → ℕ → Bool
apart s n t m = leb (s + n) t || (leb (t + m) s || (eqb n 0 || eqb m 0))

-- 1. "Whole records with known marks, in the order of kinds?"
unfoldable pub whole_records : List ℕ → Bool
whole_records l = eqb (records_end l) (length l)

-- 2. "1 to 4 devices, 1 to 8 areas, 1 to 32 sub-areas?"
abbrev pub within : ℕ → ℕ → Bool
within most n = leb 1 n && leb n most

unfoldable pub counts_fit : ℕ → ℕ → ℕ → Bool
counts_fit devices areas subAreas = within 4 devices && (within 8 areas && within 32 subAreas)

-- 3. "Devices: the first starts at 0, each next where the last ended, lengths and patience at least 1,
-- the sum of lengths at most 16,777,216?"
abbrev pub device_end : DeviceRecord → ℕ
device_end d = d.start + d.length

unfoldable pub device_due : List DeviceRecord → ℕ → ℕ
device_due l zero = 0
device_due l (suc i) = device_end (device_of l i)

unfoldable pub device_joins : ℕ → DeviceRecord → Bool
device_joins due d = eqb d.start due && (leb 1 d.length && leb 1 d.poll_limit)

abbrev pub length_sum : List DeviceRecord → ℕ → ℕ
length_sum l n = sum (λ i. (device_of l i).length) n

unfoldable pub devices_join : List DeviceRecord → ℕ → Bool
devices_join l n = every (λ i. device_joins (device_due l i) (device_of l i)) n && leb (length_sum l n) 16777216

-- 4. "Windows end at or below 65,536 and share no byte (length 0 allowed)?"
abbrev pub window_end : AreaRecord → ℕ
window_end a = a.window.start + a.window.length

unfoldable pub windows_apart : AreaRecord → AreaRecord → Bool
windows_apart a b = apart a.window.start a.window.length b.window.start b.window.length

unfoldable pub windows_fit : List AreaRecord → ℕ → Bool
windows_fit l n = every (λ i. leb (window_end (area_of l i)) 65536) n && every_pair (λ i j. windows_apart (area_of l i) (area_of l j)) n

-- 5. "No size or sector count 0; sector a multiple of page and of smallest read; each burst of its unit;
-- largest read of smallest?"
unfoldable pub granularity_fits : Granularity → Bool
granularity_fits g = leb 1 g.unit && (leb 1 g.burst && multiple g.unit g.burst)

unfoldable pub sizes_fit : SubAreaRecord → Bool
sizes_fit s =
    granularity_fits s.erase
    && (granularity_fits s.write
    && (granularity_fits s.read
    && (leb 1 s.sector_count
    && (multiple s.write.unit s.erase.unit
    && multiple s.read.unit s.erase.unit))))

abbrev pub all_sizes_fit : List SubAreaRecord → ℕ → Bool
all_sizes_fit l n = every (λ i. sizes_fit (sub_area_of l i)) n

-- 6. "Area and device known, physical start a multiple of sector, sub-area inside its device?"
-- "A sub-area has sector times sector count bytes."
abbrev pub size_of : SubAreaRecord → ℕ
size_of s = s.erase.unit * s.sector_count

abbrev pub end_of : SubAreaRecord → ℕ
end_of s = s.start + size_of s

unfoldable pub inside_device : SubAreaRecord → DeviceRecord → Bool
inside_device s d = leb d.start s.start && leb (end_of s) (device_end d)

unfoldable pub is_placed : List DeviceRecord → ℕ → ℕ → SubAreaRecord → Bool
is_placed devices device_count_of area_count_of s =
    ltb s.area area_count_of
    && (ltb s.device device_count_of
    && (multiple s.erase.unit s.start
    && inside_device s (device_of devices s.device)))

unfoldable pub all_placed : Plan → Bool
all_placed p = every (λ i. is_placed p.devices p.device_count p.area_count (sub_area_of p.sub_areas i)) p.sub_area_count

-- 7. "Area numbers never falling, each area with a sub-area, logical start plus size at most 4,294,967,295?"
abbrev pub never_falling : List SubAreaRecord → ℕ → Bool
never_falling l n = every (λ i. leb (sub_area_of l i).area (sub_area_of l (i + 1)).area) (n - 1)

abbrev pub is_of : ℕ → SubAreaRecord → Bool
is_of a s = eqb s.area a

abbrev pub has_sub_area : List SubAreaRecord → ℕ → ℕ → Bool
has_sub_area l n a = some (λ i. is_of a (sub_area_of l i)) n

unfoldable pub size_in : ℕ → SubAreaRecord → ℕ
size_in a s = pick (is_of a s) (size_of s) 0

-- "An area's logical space begins at its logical start and is its sub-areas joined in plan order."
abbrev pub area_size : List SubAreaRecord → ℕ → ℕ → ℕ
area_size l n a = sum (λ i. size_in a (sub_area_of l i)) n

unfoldable pub space_fits : ℕ → List SubAreaRecord → ℕ → ℕ → Bool
space_fits start l n a = has_sub_area l n a && leb (start + area_size l n a) 4294967295

unfoldable pub spaces_fit : Plan → Bool
spaces_fit p =
    never_falling p.sub_areas p.sub_area_count
    && every (λ a. space_fits (area_of p.areas a).start.0 p.sub_areas p.sub_area_count a) p.area_count

-- 8. "No byte in two sub-areas?"
unfoldable pub sub_areas_apart : SubAreaRecord → SubAreaRecord → Bool
sub_areas_apart s t = apart s.start (size_of s) t.start (size_of t)

abbrev pub all_apart : List SubAreaRecord → ℕ → Bool
all_apart l n = every_pair (λ i j. sub_areas_apart (sub_area_of l i) (sub_area_of l j)) n

-- questions 3 to 8 on a plan's records
unfoldable pub record_questions : Plan → List Bool
record_questions p =
    devices_join p.devices p.device_count
    ∷ windows_fit p.areas p.area_count
    ∷ all_sizes_fit p.sub_areas p.sub_area_count
    ∷ all_placed p
    ∷ spaces_fit p
    ∷ all_apart p.sub_areas p.sub_area_count
    ∷ []

-- questions 2 to 8
unfoldable pub plan_questions : Plan → List Bool
plan_questions p = counts_fit p.device_count p.area_count p.sub_area_count ∷ record_questions p

-- 20. document 02, 05: "when a wear record names an unknown or repeated sub-area or endurance 0"
-- one of the first n wear records names sub-area s
abbrev pub is_named : (ℕ → WearRecord) → ℕ → ℕ → Bool
is_named w n s = some (λ j. eqb (w j).sub_area s) n

-- record i of those of a plan with this many sub-areas; a sub-area is repeated that an earlier record names
unfoldable pub wear_record_fits : (ℕ → WearRecord) → ℕ → ℕ → Bool
wear_record_fits w subAreas i =
    ltb (w i).sub_area subAreas && (leb 1 (w i).endurance && not (is_named w i (w i).sub_area))

abbrev pub wear_fits : List ℕ → Bool
wear_fits l = every (wear_record_fits (wear_of l) (sub_area_count_of l)) (wear_count_of l)

-- "The first 'no' gives its number." "Acceptance is 0." Document 02, 05: "20 asked after 8"
unfoldable pub load_number : List ℕ → ℕ
load_number l = or_else (first_no 1 (whole_records l ∷ plan_questions (plan_of l))) (ask 20 (wear_fits l))

-- the plan that the bytes load to; all zeros where they are refused
unfoldable pub loaded_plan : List ℕ → Plan
loaded_plan l = pick (eqb (load_number l) 0) (plan_of l) empty_plan
