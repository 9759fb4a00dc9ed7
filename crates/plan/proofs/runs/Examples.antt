-- Plans of document 01 and near it, loaded by the definitions.
use Rattle.std.specs.Prelude.{ℕ, zero, suc, ◌/◌, ◌%◌, Bool, true, false, ◌≡◌, refl, List, [], ◌∷◌, ◌++◌, replicate}
use Rattle.arith.specs.Bounded.{every, some, sum}
use Rattle.arith.specs.FirstNo.{first_no, ask, or_else}
use Rattle.arith.specs.Multiples.{multiple}
use Rattle.arith.specs.Tables.{table}
use Rattle.plan.specs.Number.{number_at}
use Rattle.plan.specs.Records as records
use Rattle.plan.specs.Questions as questions
use Rattle.plan.specs.Questions.{device_of, load_number}

-- `width` bytes of a number, the least significant first
abbrev pub bytes : ℕ → ℕ → List ℕ
bytes zero n = []
bytes (suc width) n = n % 256 ∷ bytes width (n / 256)

-- a device record with this second byte of its mark: 86, 83 for a chip that can suspend, or 70 for one that clears bits only and can suspend too
abbrev pub marked_device : ℕ → ℕ → ℕ → ℕ → List ℕ
marked_device second start size limit = 68 ∷ second ∷ bytes 4 start ++ bytes 4 size ++ bytes 2 limit

abbrev pub device : ℕ → ℕ → ℕ → List ℕ
device = marked_device 86

abbrev pub area : ℕ → ℕ → ℕ → ℕ → List ℕ
area priority start window size = 65 ∷ 82 ∷ bytes 2 priority ++ bytes 4 start ++ bytes 4 window ++ bytes 4 size

abbrev pub sub_area : ℕ → ℕ → ℕ → List ℕ → ℕ → ℕ → ℕ → List ℕ
sub_area a d start sizes count writes erases =
    83 ∷ 66 ∷ bytes 1 a ++ bytes 1 d ++ bytes 4 start ++ sizes ++ bytes 4 count ++ bytes 1 writes ++ bytes 1 erases

abbrev pub sizes : ℕ → ℕ → ℕ → ℕ → ℕ → ℕ → List ℕ
sizes sector burst page pages least most = bytes 4 sector ++ bytes 4 burst ++ bytes 4 page ++ bytes 4 pages ++ bytes 4 least ++ bytes 4 most

-- plan T, but for the device records and the first sub-area's sector burst
abbrev plan_on : List ℕ → ℕ → List ℕ
plan_on devices burst =
    devices ++ area 1 0 0 16 ++ area 5 256 16 16 ++ sub_area 0 0 0 (sizes 16 burst 4 8 1 8) 2 1 0 ++ sub_area 1 0 32 (sizes 16 16 4 4 1 4) 2 0 0

abbrev pub plan_with : ℕ → ℕ → ℕ → List ℕ
plan_with size limit = plan_on (device 0 size limit)

abbrev pub plan_t : List ℕ
plan_t = plan_with 64 2 32

-- plan T on a device with the first of these second bytes of marks, and beside it two with the others
abbrev plan_marked : ℕ → ℕ → ℕ → List ℕ
plan_marked x y z = plan_on (marked_device x 0 64 2 ++ marked_device y 64 16 2 ++ marked_device z 80 16 2) 32

-- document 02, 05: a wear record
abbrev pub wear : ℕ → ℕ → List ℕ
wear sub_area endurance = 87 ∷ 82 ∷ bytes 1 sub_area ++ bytes 4 endurance

-- this many of one wear record
abbrev wears : ℕ → ℕ → ℕ → List ℕ
wears zero sub_area endurance = []
wears (suc n) sub_area endurance = wear sub_area endurance ++ wears n sub_area endurance

-- plan T with records before its sub-areas, with the second of them at this start, and with records behind them
abbrev plan_around : List ℕ → ℕ → List ℕ → List ℕ
plan_around before start behind =
    device 0 64 2 ++ area 1 0 0 16 ++ area 5 256 16 16 ++ before ++ sub_area 0 0 0 (sizes 16 32 4 8 1 8) 2 1 0
    ++ sub_area 1 0 start (sizes 16 16 4 4 1 4) 2 0 0 ++ behind

-- three areas on a device with this second byte of its mark and this poll limit
abbrev pub plan_e : ℕ → ℕ → List ℕ
plan_e second limit =
    marked_device second 0 64 limit ++ area 1 0 0 8 ++ area 5 256 8 8 ++ area 9 512 16 8 ++ sub_area 0 0 0 (sizes 16 16 4 4 1 8) 1 0 0
    ++ sub_area 1 0 16 (sizes 16 16 4 4 1 4) 1 1 0 ++ sub_area 2 0 32 (sizes 16 16 4 4 1 8) 2 0 0

-- can device d of such a plan suspend, and does it only clear bits?
abbrev marks : ℕ → Bool × Bool
marks d = let x = device_of (records.plan_of (plan_marked 70 83 86)).devices d in (x.suspends, x.clears)

-- "Empty plan: 2. Patience 0: 3. Device length 63: 6. Sector burst 24: 5."
-- document 02, 02: "A device record with mark hex 44 53, laid out as before, means the chip can pause."; 03: "a device mark hex 44 46 for such
-- a chip, which can pause too". The three may be mixed; a mark that is none of them is for 1.
pub examples :
    (load_number plan_t ≡ 0)
    × (load_number (plan_e 83 3) ≡ 0)
    × (load_number [] ≡ 2)
    × (load_number (plan_with 64 0 32) ≡ 3)
    × (load_number (plan_with 63 2 32) ≡ 6)
    × (load_number (plan_with 64 2 24) ≡ 5)
    × (load_number (plan_marked 70 83 86) ≡ 0)
    × (load_number (plan_marked 86 70 83) ≡ 0)
    × (load_number (plan_marked 83 86 70) ≡ 0)
    × (load_number (plan_marked 83 86 71) ≡ 1)
    × (marks 0 ≡ (true, true))
    × (marks 1 ≡ (true, false))
    × (marks 2 ≡ (false, false))
unfolding first_no ask or_else every some sum multiple table number_at load_number questions.whole_records questions.plan_questions questions.record_questions questions.counts_fit questions.devices_join questions.device_joins questions.device_due questions.windows_fit questions.windows_apart questions.apart questions.sizes_fit questions.granularity_fits questions.all_placed questions.is_placed questions.inside_device questions.spaces_fit questions.space_fits questions.size_in questions.sub_areas_apart records.plan_of records.records_end records.wear_start_of records.wear_count_of records.sub_areas_start_of records.areas_start_of records.device_count_of records.area_count_of records.sub_area_count_of records.records_from records.records_up_to records.is_record records.device_at records.area_at records.sub_area_at records.granularity_at
examples = (refl, refl, refl, refl, refl, refl, refl, refl, refl, refl, refl, refl, refl)

-- document 02, 05: "Refused: 20 asked after 8 when a wear record names an unknown or repeated sub-area or endurance 0." More records than a plan
-- has room for are for 20 too; a cut one, and one before the sub-areas, for 1.
pub wear_examples :
    (load_number (plan_around [] 32 (wear 0 7)) ≡ 0)
    × (load_number (plan_around [] 32 (wear 1 5 ++ wear 0 7)) ≡ 0)
    × (load_number (plan_around [] 32 (wear 2 5)) ≡ 20)
    × (load_number (plan_around [] 32 (wear 0 5 ++ wear 0 6)) ≡ 20)
    × (load_number (plan_around [] 32 (wear 1 0)) ≡ 20)
    × (load_number (plan_around [] 32 (wears 33 0 1)) ≡ 20)
    × (load_number (plan_around [] 32 (wear 0 7 ++ 87 ∷ 82 ∷ 1 ∷ bytes 3 5)) ≡ 1)
    × (load_number (plan_around (wear 0 7) 32 []) ≡ 1)
    × (load_number (plan_around [] 16 (wear 9 0)) ≡ 8)
    × ((records.plan_of (plan_around [] 32 (wear 1 5 ++ wear 0 7))).endurance ≡ 7 ∷ 5 ∷ replicate 30 0)
unfolding first_no ask or_else every some sum multiple table number_at load_number questions.whole_records questions.plan_questions questions.record_questions questions.counts_fit questions.devices_join questions.device_joins questions.device_due questions.windows_fit questions.windows_apart questions.apart questions.sizes_fit questions.granularity_fits questions.all_placed questions.is_placed questions.inside_device questions.spaces_fit questions.space_fits questions.size_in questions.sub_areas_apart records.plan_of records.records_end records.wear_start_of records.wear_count_of records.sub_areas_start_of records.areas_start_of records.device_count_of records.area_count_of records.sub_area_count_of records.records_from records.records_up_to records.is_record records.device_at records.area_at records.sub_area_at records.granularity_at records.wear_at records.endurance_by questions.wear_record_fits
wear_examples = (refl, refl, refl, refl, refl, refl, refl, refl, refl, refl)
