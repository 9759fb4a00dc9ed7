-- Job info and memory info on a plan where every number is another, evaluated by the definitions that the contracts of the calls name. No law says what they answer, nor that a job of
-- an idle area is accepted; so this run stands beside the laws. The others are in crate rules_runs. The expected values are worked out from document 01, as the comments say.
use Rattle.std.specs.Prelude.{ℕ, ◌≡◌, refl, List, [], ◌∷◌, ◌++◌, replicate}
use Rattle.memory.specs.Numbers.{status_number}
use Rattle.memory.specs.declared.DeviceAnswer.{DeviceAnswer}
use Rattle.memory.specs.declared.DeviceAnswer.TheVariants.{Pending, Done}
use Rattle.memory.specs.declared.JobType.{JobType}
use Rattle.memory.specs.declared.JobType.TheVariants.{Read, Lock}
use Rattle.memory.specs.declared.Task.{Task}
use Rattle.plan.proofs.runs.Examples.{device, area, sub_area, sizes}
use Rattle.plan.specs.declared.records.Granularity.{Granularity}
use Rattle.state.specs.declared.JobInfo.{JobInfo}
use Rattle.state.specs.declared.MemoryInfo.{MemoryInfo}
use Rattle.state.specs.declared.RequestInfo.{RequestInfo}
use Rattle.state.specs.declared.Waits.{Waits}
use Rattle.rules.specs.History.{Call, cancels}
use Rattle.arith.specs.Bounded as Bounded
use Rattle.arith.specs.FirstNo as FirstNo
use Rattle.arith.specs.Multiples as Multiples
use Rattle.arith.specs.Tables as Tables
use Rattle.arith.specs.Parts as Parts
use Rattle.plan.specs.Number as Number
use Rattle.plan.specs.Records as Records
use Rattle.plan.specs.Questions as Questions
use Rattle.segment.specs.Mapping as Mapping
use Rattle.segment.specs.Segments as Segments
use Rattle.rules.specs.Layout as Layout
use Rattle.rules.specs.Ranks as Ranks
use Rattle.rules.specs.Machine as Machine
use Rattle.rules.specs.Admission as Admission
use Rattle.rules.specs.Round as Round
use Rattle.rules.specs.History as History
use Rattle.rules.specs.Queries as Queries

-- Two devices. Area 1 has a sub-area on device 0 and one on device 1, every number of which is another; area 0 ranks below it and area 2 above it, both on device 1.
abbrev pub plan_q : List ℕ
plan_q =
    device 0 16 2 ++ device 16 44 9 ++ area 1 0 0 4 ++ area 5 256 4 20 ++ area 9 512 24 8 ++ sub_area 0 1 16 (sizes 8 8 4 4 1 8) 1 0 0
    ++ sub_area 1 0 0 (sizes 16 16 8 8 1 4) 1 0 0 ++ sub_area 1 1 36 (sizes 12 24 4 8 2 6) 2 0 0 ++ sub_area 2 1 24 (sizes 8 8 4 4 1 8) 1 0 0

-- a round with these answers and an image of n bytes; the windows end at 32
abbrev pub round : ℕ → List DeviceAnswer → Call
round n answers = History.round answers (record { image = replicate n 255; store = replicate 32 0 })

-- one on plan Q, with device 1's answer
abbrev pub device1 : DeviceAnswer → Call
device1 x = round 60 (Pending ∷ x ∷ [])

abbrev pub task : JobType → ℕ → ℕ → Task
task k address n = record { kind = k; address = record { 0 = address }; length = n }

abbrev pub job : JobType → ℕ → ℕ → ℕ → Call
job k a address n = History.submit a (task k address n)

-- the counts that are reported: the wait history's, as none has stuck
abbrev pub reported : History.Tally → Waits
reported w = record { own = w.own; above = w.above; below = w.below; locked = w.locked }

-- what area a's queries answer after these calls: the number, status, result, processed length and job info
abbrev pub asked : List ℕ → List Call → ℕ → ℕ × ℕ × ℕ × ℕ × JobInfo
asked plan calls a =
    let p = Records.plan_of plan in
    let h = History.run p calls History.fresh_history in
    let j = h.core.jobs a in
    (Admission.info_number p a, status_number j.status, j.result.0, j.processed, Queries.job_info_of p h.core (reported (h.tallies a)) a)

-- own, above, below, locked
abbrev pub counts : ℕ → ℕ → ℕ → ℕ → Waits
counts o a b l = record { own = o; above = a; below = b; locked = l }

-- device, physical address, length, polls
abbrev pub request : ℕ → ℕ → ℕ → ℕ → RequestInfo
request d x n polls = record { device = d; start = record { 0 = x }; length = n; polls = polls }

abbrev pub info : Task → ℕ → ℕ → Waits → RequestInfo → JobInfo
info t result processed w r = record { task = t; result = record { 0 = result }; processed = processed; waits = w; request = r }

-- what memory info answers: the number, and the info
abbrev pub memory_number : List ℕ → ℕ → ℕ → ℕ
memory_number plan a x = Admission.memory_info_number (Records.plan_of plan) a (record { 0 = x })

abbrev pub memory_asked : List ℕ → ℕ → ℕ → ℕ × MemoryInfo
memory_asked plan a x = (memory_number plan a x, Queries.memory_info_of (Records.plan_of plan) a (record { 0 = x }))

abbrev pub granularity : ℕ → ℕ → Granularity
granularity unit burst = record { unit = unit; burst = burst }

-- logical start, physical start, largest offset; the sizes of erase, write and read; device
abbrev pub memory : ℕ → ℕ → ℕ → Granularity → Granularity → Granularity → ℕ → MemoryInfo
memory logical physical offset e w r d =
    record { logical_start = record { 0 = logical }; physical_start = record { 0 = physical }; max_offset = offset; erase = e; write = w; read = r; device = d }

-- Area 1's job is submitted when area 0's read has just been started. Area 2's read comes next, then area 1's first segment, and while that runs a lock request of area 2,
-- which is released.
abbrev pub unlike : List Call
unlike =
    job Read 1 274 2 ∷ cancels 1 ∷ job Read 0 0 4 ∷ device1 Pending ∷ job Read 1 274 20 ∷ replicate 7 (device1 Pending)
    ++ job Read 2 512 4 ∷ device1 Done ∷ replicate 3 (device1 Pending)
    ++ device1 Done ∷ job Lock 2 512 4 ∷ device1 Done ∷ replicate 7 (device1 Pending)
    ++ History.releases 2 (record { 0 = 512 }) 4 ∷ device1 Pending ∷ device1 Done ∷ device1 Pending ∷ device1 Pending ∷ []

pub info_runs :
    -- Plan Q loads.
    (Questions.load_number plan_q ≡ 0)
    -- Every number another: result 3 of the job before; the read is cut into 6 at 38, 6 at 44, 6 at 50 and 2 at 56, since logical 274 is byte 2 of the sub-area at 36; two segments are done,
    -- the third is polled twice. 7 rounds behind area 0, 4 behind area 2, 8 locked, 5 own: 1 of the first segment, 1 of the second, 3 of the third.
    × (asked plan_q unlike 1 ≡ (0, 1, 3, 12, info (task Read 274 20) 3 12 (counts 5 4 7 8) (request 1 50 6 2)))
    -- Area 1's first sub-area has the 16 bytes from 256 on, so its second begins at 272 and has 24; every number of the second is another.
    × (memory_asked plan_q 1 272 ≡ (0, memory 272 36 23 (granularity 12 24) (granularity 4 8) (granularity 2 6) 1))
unfolding Bounded.every Bounded.some Bounded.sum FirstNo.first_no FirstNo.ask FirstNo.or_else Multiples.multiple Tables.table Parts.upd Number.number_at Records.device_at Records.area_at Records.granularity_at Records.sub_area_at Records.is_record Records.records_up_to Records.records_from Records.device_count_of Records.areas_start_of Records.area_count_of Records.sub_areas_start_of Records.sub_area_count_of Records.records_end Records.wear_start_of Records.wear_count_of Records.plan_of Questions.apart Questions.whole_records Questions.counts_fit Questions.device_due Questions.device_joins Questions.devices_join Questions.windows_apart Questions.windows_fit Questions.granularity_fits Questions.sizes_fit Questions.inside_device Questions.is_placed Questions.all_placed Questions.size_in Questions.space_fits Questions.spaces_fit Questions.sub_areas_apart Questions.record_questions Questions.plan_questions Questions.load_number Questions.loaded_plan Mapping.find Mapping.mapped Segments.burst_or_unit Segments.segment_at Segments.cut Segments.segments_from Segments.spans_after Segments.spans Ranks.ages_after Ranks.rank_above Layout.layout_of Machine.job_failed Machine.job_finished Machine.job_differs Machine.take_answer Machine.ready Machine.best Machine.start_device Machine.second_half Machine.wait_behind Machine.cancel Machine.begin Machine.release Admission.is_inside Admission.is_aligned Admission.fits_window Admission.on_one_device Admission.range_device Admission.job_questions Admission.release_questions Admission.cancel_questions Admission.info_questions Admission.memory_info_questions Admission.image_fits Admission.store_reaches Admission.job_number Admission.release_number Admission.cancel_number Admission.info_number Admission.memory_info_number Admission.round_number Round.take_in Round.take_all Round.round_halves History.fresh_history History.round_of History.submitted History.step History.run Queries.job_info_of Queries.memory_info_of
info_runs = (refl, refl, refl)
