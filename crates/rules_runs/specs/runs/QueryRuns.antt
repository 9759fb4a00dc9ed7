-- What the queries answer, evaluated by the definitions that the contracts of the calls name. The expected values are worked out from document 01, as the comments say; a first run is rules/runs/InfoRuns.
use Rattle.std.specs.Prelude.{◌≡◌, refl, List, [], ◌∷◌, ◌++◌}
use Rattle.memory.specs.declared.DeviceAnswer.{DeviceAnswer}
use Rattle.memory.specs.declared.DeviceAnswer.TheVariants.{Pending, Done, Failed}
use Rattle.memory.specs.declared.JobType.TheVariants.{NoJob, Write, Read, Compare, Erase, Lock}
use Rattle.plan.proofs.runs.Examples.{plan_t, plan_e}
use Rattle.rules.specs.History.{Call, cancels}
use Rattle.rules.specs.Queries.{no_request}
use Rattle.rules.proofs.runs.InfoRuns.{plan_q, task, round, job, asked, counts, request, info, memory_number, memory_asked, granularity, memory, unlike}
use Rattle.arith.specs.Bounded as Bounded
use Rattle.arith.specs.FirstNo as FirstNo
use Rattle.arith.specs.Multiples as Multiples
use Rattle.arith.specs.Tables as Tables
use Rattle.arith.specs.Parts as Parts
use Rattle.plan.specs.Number as Number
use Rattle.plan.specs.Records as Records
use Rattle.plan.specs.Questions as Questions
use Rattle.segment.specs.Mapping as Mapping
use Rattle.segment.specs.Segments as Segments
use Rattle.rules.specs.Layout as Layout
use Rattle.rules.specs.Ranks as Ranks
use Rattle.rules.specs.Machine as Machine
use Rattle.rules.specs.Admission as Admission
use Rattle.rules.specs.Round as Round
use Rattle.rules.specs.History as History
use Rattle.rules.specs.Queries as Queries

-- a round on plans T and E, with device 0's answer
abbrev device0 : DeviceAnswer → Call
device0 x = round 64 (x ∷ [])

-- the paper's session
abbrev write : Call
write = job Write 0 4 12

abbrev two : List Call
two = write ∷ device0 Pending ∷ job Write 1 256 4 ∷ device0 Pending ∷ []

abbrev whole : List Call
whole = two ++ device0 Done ∷ device0 Done ∷ device0 (Failed 0) ∷ device0 Done ∷ []

abbrev failed : List Call
failed = job Write 1 256 8 ∷ device0 Pending ∷ device0 Done ∷ device0 (Failed 2) ∷ []

abbrev compare : Call
compare = job Compare 1 260 3

-- area 1 ranks above area 0
abbrev lock : List Call
lock = job Erase 0 0 32 ∷ job Lock 1 257 5 ∷ device0 Pending ∷ device0 Pending ∷ []

abbrev suspended : List Call
suspended = job Erase 0 0 16 ∷ device0 Pending ∷ job Read 1 256 4 ∷ device0 Pending ∷ []

pub query_runs :
    -- Plan T fresh: "idle, result 0, no job, all counts 0"; it has areas 0 and 1.
    (asked plan_t [] 0 ≡ (0, 0, 0, 0, info (task NoJob 0 0) 0 0 (counts 0 0 0 0) no_request))
    × (asked plan_t [] 1 ≡ (0, 0, 0, 0, info (task NoJob 0 0) 0 0 (counts 0 0 0 0) no_request))
    × (Admission.info_number (Records.plan_of plan_t) 2 ≡ 10)
    -- An accepted job, before any round: pending, nothing processed, no request.
    × (asked plan_t (write ∷ []) 0 ≡ (0, 1, 0, 0, info (task Write 4 12) 0 0 (counts 0 0 0 0) no_request))
    -- The paper's session up to its fourth line: area 0's request, 4 at 4, was started and polled once: 2 rounds own. Area 1 was accepted between; its 1 round is below. The request on the
    -- device it needs is not its own.
    × (asked plan_t two 0 ≡ (0, 1, 0, 0, info (task Write 4 12) 0 0 (counts 2 0 0 0) (request 0 4 4 1)))
    × (asked plan_t two 1 ≡ (0, 1, 0, 0, info (task Write 256 4) 0 0 (counts 0 0 1 0) no_request))
    -- "With one running, the area stays pending", and its request is shown; area 1's job, without one, ends "immediately, result 3".
    × (asked plan_t (two ++ cancels 0 ∷ cancels 1 ∷ []) 0 ≡ (0, 1, 0, 0, info (task Write 4 12) 0 0 (counts 2 0 0 0) (request 0 4 4 1)))
    × (asked plan_t (two ++ cancels 0 ∷ cancels 1 ∷ []) 1 ≡ (0, 0, 3, 0, info (task Write 256 4) 3 0 (counts 0 0 1 0) no_request))
    -- "when that request ends, for any cause, the job ends with result 3"; its 4 bytes are processed. The round that ends it adds to no count. Area 1's request, 4 at 32, starts: 1 round own.
    × (asked plan_t (two ++ cancels 0 ∷ device0 Done ∷ []) 0 ≡ (0, 0, 3, 4, info (task Write 4 12) 3 4 (counts 2 0 0 0) no_request))
    × (asked plan_t (two ++ cancels 0 ∷ device0 Done ∷ []) 1 ≡ (0, 1, 0, 0, info (task Write 256 4) 0 0 (counts 1 0 1 0) (request 0 32 4 0)))
    -- The session to its end: area 0 waited 1 round above for area 1, then its second segment was started and tried again: 4 rounds own. Both jobs have ended, and their data stay.
    × (asked plan_t whole 0 ≡ (0, 0, 0, 12, info (task Write 4 12) 0 12 (counts 4 1 0 0) no_request))
    × (asked plan_t whole 1 ≡ (0, 0, 0, 4, info (task Write 256 4) 0 4 (counts 1 0 1 0) no_request))
    -- Area 1's first segment is done, its second fails; without a write retry the result is 1, with 4 bytes processed and 2 rounds own.
    × (asked plan_t failed 1 ≡ (0, 0, 1, 4, info (task Write 256 8) 1 4 (counts 2 0 0 0) no_request))
    -- "An accepted job makes its area pending and sets processed length and counts to 0; the old result stands until the job ends." Then the image's 255 differ from the window's 0: result 2.
    × (asked plan_t (failed ++ compare ∷ []) 1 ≡ (0, 1, 1, 0, info (task Compare 260 3) 1 0 (counts 0 0 0 0) no_request))
    × (asked plan_t (failed ++ compare ∷ device0 Pending ∷ []) 1 ≡ (0, 1, 1, 0, info (task Compare 260 3) 1 0 (counts 1 0 0 0) (request 0 36 3 0)))
    × (asked plan_t (failed ++ compare ∷ device0 Pending ∷ device0 Done ∷ []) 1 ≡ (0, 0, 2, 0, info (task Compare 260 3) 2 0 (counts 1 0 0 0) no_request))
    -- A lock request ends with 0 when it is given, with nothing processed; area 0's erase waits 2 rounds for the device.
    × (asked plan_t lock 0 ≡ (0, 1, 0, 0, info (task Erase 0 32) 0 0 (counts 0 0 0 2) no_request))
    × (asked plan_t lock 1 ≡ (0, 0, 0, 0, info (task Lock 257 5) 0 0 (counts 0 0 0 0) no_request))
    -- Plan E, whose chip can suspend: area 0's erase is suspended, so it has no request; area 1's read, 4 at 16, stands above it for 1 round.
    × (asked (plan_e 83 3) suspended 0 ≡ (0, 1, 0, 0, info (task Erase 0 16) 0 0 (counts 1 1 0 0) no_request))
    × (asked (plan_e 83 3) suspended 1 ≡ (0, 1, 0, 0, info (task Read 256 4) 0 0 (counts 1 0 0 0) (request 0 16 4 0)))
    -- The job of `info_runs`, cancelled, shows the same.
    × (asked plan_q (unlike ++ cancels 1 ∷ []) 1 ≡ (0, 1, 3, 12, info (task Read 274 20) 3 12 (counts 5 4 7 8) (request 1 50 6 2)))
    -- Memory info. Sub-area 0 of plan T: logical and physical start 0, 2 sectors of 16: 32 bytes. It is the same for each of its addresses; 32 is outside.
    × (memory_asked plan_t 0 0 ≡ (0, memory 0 0 31 (granularity 16 32) (granularity 4 8) (granularity 1 8) 0))
    × (memory_asked plan_t 0 5 ≡ (0, memory 0 0 31 (granularity 16 32) (granularity 4 8) (granularity 1 8) 0))
    × (memory_asked plan_t 0 31 ≡ (0, memory 0 0 31 (granularity 16 32) (granularity 4 8) (granularity 1 8) 0))
    × (memory_number plan_t 0 32 ≡ 12)
    -- Sub-area 1 of plan T: logical 256 to 287, physical start 32.
    × (memory_asked plan_t 1 270 ≡ (0, memory 256 32 31 (granularity 16 16) (granularity 4 4) (granularity 1 4) 0))
    × (memory_asked plan_t 1 287 ≡ (0, memory 256 32 31 (granularity 16 16) (granularity 4 4) (granularity 1 4) 0))
    × (memory_number plan_t 1 255 ≡ 12)
    × (memory_number plan_t 1 288 ≡ 12)
    × (memory_number plan_t 2 0 ≡ 10)
    -- Area 1 of plan Q: its first sub-area has the 16 bytes from 256 on, so its second begins at 272 and has 24; every number of the second is another.
    × (memory_asked plan_q 1 271 ≡ (0, memory 256 0 15 (granularity 16 16) (granularity 8 8) (granularity 1 4) 0))
    × (memory_asked plan_q 1 289 ≡ (0, memory 272 36 23 (granularity 12 24) (granularity 4 8) (granularity 2 6) 1))
    × (memory_number plan_q 1 296 ≡ 12)
unfolding Bounded.every Bounded.some Bounded.sum FirstNo.first_no FirstNo.ask FirstNo.or_else Multiples.multiple Tables.table Parts.upd Number.number_at Records.device_at Records.area_at Records.granularity_at Records.sub_area_at Records.is_record Records.records_up_to Records.records_from Records.device_count_of Records.areas_start_of Records.area_count_of Records.sub_areas_start_of Records.sub_area_count_of Records.records_end Records.wear_start_of Records.wear_count_of Records.plan_of Questions.apart Questions.whole_records Questions.counts_fit Questions.device_due Questions.device_joins Questions.devices_join Questions.windows_apart Questions.windows_fit Questions.granularity_fits Questions.sizes_fit Questions.inside_device Questions.is_placed Questions.all_placed Questions.size_in Questions.space_fits Questions.spaces_fit Questions.sub_areas_apart Questions.record_questions Questions.plan_questions Questions.load_number Questions.loaded_plan Mapping.find Mapping.mapped Segments.burst_or_unit Segments.segment_at Segments.cut Segments.segments_from Segments.spans_after Segments.spans Ranks.ages_after Ranks.rank_above Layout.layout_of Machine.job_failed Machine.job_finished Machine.job_differs Machine.take_answer Machine.ready Machine.best Machine.start_device Machine.second_half Machine.wait_behind Machine.cancel Machine.begin Machine.release Admission.is_inside Admission.is_aligned Admission.fits_window Admission.on_one_device Admission.range_device Admission.job_questions Admission.release_questions Admission.cancel_questions Admission.info_questions Admission.memory_info_questions Admission.image_fits Admission.store_reaches Admission.job_number Admission.release_number Admission.cancel_number Admission.info_number Admission.memory_info_number Admission.round_number Round.take_in Round.take_all Round.round_halves History.fresh_history History.round_of History.submitted History.step History.run Queries.job_info_of Queries.memory_info_of
query_runs = (refl, refl, refl, refl, refl, refl, refl, refl, refl, refl, refl, refl, refl, refl, refl, refl, refl, refl, refl, refl, refl, refl, refl, refl, refl, refl, refl, refl, refl, refl, refl, refl, refl)
