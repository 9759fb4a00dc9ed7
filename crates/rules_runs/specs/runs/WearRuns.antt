-- document 02, 05: runs of the wear account, as the bench prints them, with what the wear query answers after them. The expected values are worked out by hand from the papers.
use Rattle.std.specs.Prelude.{ℕ, ◌≡◌, refl, List, [], ◌∷◌, ◌++◌, replicate}
use Rattle.memory.specs.declared.DeviceAnswer.TheVariants.{Pending, Done, Failed}
use Rattle.memory.specs.declared.JobType.TheVariants.{Read, Erase}
use Rattle.plan.proofs.runs.Examples.{plan_t, plan_e, wear}
use Rattle.rules.specs.Session.{Bench, number, devices, Line, answers, nothing, request}
use Rattle.rules_runs.specs.runs.ClosedRuns.{job, cancel}
use Rattle.arith.specs.Bounded as Bounded
use Rattle.arith.specs.FirstNo as FirstNo
use Rattle.arith.specs.Listed as Listed
use Rattle.arith.specs.Multiples as Multiples
use Rattle.arith.specs.Tables as Tables
use Rattle.arith.specs.Parts as Parts
use Rattle.plan.specs.Number as Number
use Rattle.plan.specs.Records as Records
use Rattle.plan.specs.Questions as Questions
use Rattle.segment.specs.Mapping as Mapping
use Rattle.segment.specs.Segments as Segments
use Rattle.rules.specs.Layout as Layout
use Rattle.rules.specs.Ranks as Ranks
use Rattle.rules.specs.Machine as Machine
use Rattle.rules.specs.Admission as Admission
use Rattle.rules.specs.Round as Round
use Rattle.rules.specs.History as History
use Rattle.rules.specs.Session as Session
use Rattle.rules.specs.Wear as Wear
use Rattle.wear.specs.Wear as WearNumbers

-- a bench on a plan with an image of 64 bytes, after these lines
abbrev played : List ℕ → List Line → Bench
played plan lines =
    Session.play (Records.plan_of plan) lines
    (record { history = History.fresh_history; memory = record { image = replicate 64 255; store = replicate 48 0 }; printed = [] })

-- what the wear query of area a answers at address x after these lines: the number, the sum and the charge
abbrev wear_number : List ℕ → ℕ → ℕ → ℕ
wear_number plan a x = Admission.memory_info_number (Records.plan_of plan) a (record { 0 = x })

abbrev wear_asked : List ℕ → List Line → ℕ → ℕ → ℕ × ℕ × ℕ
wear_asked plan lines a x =
    let p = Records.plan_of plan in
    let i = Wear.wear_info_of p (Wear.stuck_wear p (played plan lines).history.erases) a (record { 0 = x }) in
    (wear_number plan a x, i.sum, i.charge)

-- plan T, whose sub-area 0 endures 7 cycles in each of its 2 sectors, 14 in all; sub-area 1 has no record
abbrev plan_tW : List ℕ
plan_tW = plan_t ++ wear 0 7

-- an erase that fails after 5 bytes; one sector of a cancelled job; two sectors in one request; a sector of sub-area 1
abbrev failing : List Line
failing = job Erase 0 0 32 ∷ answers (Pending ∷ []) ∷ answers (Failed 5 ∷ []) ∷ []

abbrev cancelling : List Line
cancelling = failing ++ job Erase 0 16 16 ∷ answers (Pending ∷ []) ∷ cancel 0 ∷ answers (Done ∷ []) ∷ []

abbrev both : List Line
both = cancelling ++ job Erase 0 0 32 ∷ answers (Pending ∷ []) ∷ answers (Done ∷ []) ∷ []

abbrev other : List Line
other = both ++ job Erase 1 256 16 ∷ answers (Pending ∷ []) ∷ answers (Done ∷ []) ∷ []

-- an erase of area 0 on a chip that can suspend, which gives way to a read of area 1
abbrev suspended : List Line
suspended = job Erase 0 0 16 ∷ answers (Pending ∷ []) ∷ job Read 1 256 4 ∷ answers (Pending ∷ []) ∷ []

pub wear_runs :
    (Questions.load_number plan_tW ≡ 0)
    × ((played plan_tW other).printed
    ≡ number 0 ∷ devices (request 0 4 0 32 ∷ []) ∷ devices (nothing ∷ []) ∷ number 0 ∷ devices (request 0 4 16 16 ∷ []) ∷ number 0 ∷ devices (nothing ∷ [])
    ∷ number 0 ∷ devices (request 0 4 0 32 ∷ []) ∷ devices (nothing ∷ []) ∷ number 0 ∷ devices (request 1 4 32 16 ∷ []) ∷ devices (nothing ∷ []) ∷ [])
    -- A failed erase wears nothing; 1 of 14 is 71,428.57 millionths, 3 of 14 are 214,285.71; a sub-area without a record has charge 0.
    × (wear_asked plan_tW failing 0 0 ≡ (0, 0, 0))
    × (wear_asked plan_tW cancelling 0 31 ≡ (0, 1, 71429))
    × (wear_asked plan_tW both 0 0 ≡ (0, 3, 214286))
    × (wear_asked plan_tW other 0 0 ≡ (0, 3, 214286))
    × (wear_asked plan_tW other 1 256 ≡ (0, 1, 0))
    × (wear_number plan_tW 1 0 ≡ 12)
    × (wear_number plan_tW 2 0 ≡ 10)
    -- A charge that is exact, and one sector more, beyond what the sub-area endures: 2 of 2 sectors, then 3.
    × (wear_asked (plan_t ++ wear 0 1) both 0 0 ≡ (0, 3, 1500000))
    × (wear_asked (plan_t ++ wear 0 1) (job Erase 0 0 32 ∷ answers (Done ∷ []) ∷ answers (Done ∷ []) ∷ []) 0 0 ≡ (0, 2, 1000000))
    -- An erase that is dropped wears nothing.
    × (wear_asked plan_tW (job Erase 0 0 32 ∷ answers (Pending ∷ []) ∷ answers (Pending ∷ []) ∷ answers (Pending ∷ []) ∷ []) 0 0 ≡ (0, 0, 0))
    -- Suspended for a read and resumed, it wears once, when it is done; also where it was cancelled meanwhile. The read wears nothing.
    × (wear_asked (plan_e 83 3) suspended 0 0 ≡ (0, 0, 0))
    × (wear_asked (plan_e 83 3) (suspended ++ answers (Done ∷ []) ∷ answers (Done ∷ []) ∷ []) 0 0 ≡ (0, 1, 0))
    × (wear_asked (plan_e 83 3) (suspended ++ cancel 0 ∷ answers (Done ∷ []) ∷ answers (Done ∷ []) ∷ []) 0 0 ≡ (0, 1, 0))
    × (wear_asked (plan_e 83 3) (suspended ++ answers (Done ∷ []) ∷ answers (Done ∷ []) ∷ []) 1 256 ≡ (0, 0, 0))
unfolding Bounded.every Bounded.some Bounded.sum FirstNo.first_no FirstNo.ask FirstNo.or_else Listed.listed Multiples.multiple Tables.table Parts.part Parts.put Parts.upd Number.number_at Records.device_at Records.area_at Records.granularity_at Records.sub_area_at Records.is_record Records.records_up_to Records.records_from Records.device_count_of Records.areas_start_of Records.area_count_of Records.sub_areas_start_of Records.sub_area_count_of Records.records_end Records.wear_start_of Records.wear_count_of Records.wear_at Records.endurance_by Records.record_layout Records.plan_of Records.empty_plan Questions.apart Questions.whole_records Questions.counts_fit Questions.device_due Questions.device_joins Questions.devices_join Questions.windows_apart Questions.windows_fit Questions.granularity_fits Questions.sizes_fit Questions.inside_device Questions.is_placed Questions.all_placed Questions.size_in Questions.space_fits Questions.spaces_fit Questions.sub_areas_apart Questions.record_questions Questions.plan_questions Questions.wear_record_fits Questions.load_number Questions.loaded_plan Mapping.find Mapping.mapped Segments.burst_or_unit Segments.segment_at Segments.cut Segments.segments_from Segments.spans_after Segments.spans Segments.own_sum Segments.below_sum Segments.own_bound Segments.below_bound Ranks.ages_after Ranks.rank_above Layout.layout_of Machine.job_failed Machine.job_finished Machine.job_differs Machine.take_answer Machine.first_half Machine.ready Machine.best Machine.start_device Machine.second_half Machine.wait_behind Machine.cancel Machine.begin Machine.release Admission.is_inside Admission.is_aligned Admission.fits_window Admission.on_one_device Admission.range_device Admission.job_questions Admission.release_questions Admission.cancel_questions Admission.info_questions Admission.memory_info_questions Admission.image_fits Admission.store_reaches Admission.job_number Admission.release_number Admission.cancel_number Admission.info_number Admission.memory_info_number Admission.round_number Admission.admits Round.take_in Round.take_all Round.erases_to Round.round_halves History.fresh_history History.round_of History.submitted History.step History.run Session.shown_to Session.entry_of Session.play_line Session.play WearNumbers.sectors_in WearNumbers.rounded_up WearNumbers.charge_of Wear.worn_in Wear.wear_info_of
wear_runs = (refl, refl, refl, refl, refl, refl, refl, refl, refl, refl, refl, refl, refl, refl, refl, refl)
