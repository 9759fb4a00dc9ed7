-- The bound on above is reached: a run over plan T, evaluated.
use Rattle.std.specs.Prelude.{false, ◌≡◌, refl, List, [], ◌∷◌}
use Rattle.std.proofs.Common.{arith}
use Rattle.memory.specs.declared.DeviceAnswer.{DeviceAnswer}
use Rattle.memory.specs.declared.DeviceAnswer.TheVariants.{Pending, Done}
use Rattle.memory.specs.declared.JobType.TheVariants.{Write}
use Rattle.plan.specs.declared.records.Plan.{Plan}
use Rattle.plan.proofs.runs.Examples.{plan_t, examples}
use Rattle.arith.specs.Bounded as Bounded
use Rattle.arith.specs.FirstNo as FirstNo
use Rattle.arith.specs.Multiples as Multiples
use Rattle.arith.specs.Tables as Tables
use Rattle.arith.specs.Parts as Parts
use Rattle.plan.specs.Number as Number
use Rattle.plan.specs.Records as Records
use Rattle.plan.specs.Questions as Questions
use Rattle.segment.specs.Mapping as Mapping
use Rattle.segment.specs.Segments as Segments
use Rattle.rules.specs.Layout as Layout
use Rattle.rules.specs.Ranks as Ranks
use Rattle.rules.specs.Machine as Machine
use Rattle.rules.specs.Admission as Admission
use Rattle.rules.specs.Round as Round
use Rattle.rules.specs.History as History
use Rattle.rules.specs.History.{Call}
use Rattle.rules.proofs.runs.InfoRuns.{round, task, job}
use Rattle.rules.specs.statements.JobSets as JobSets
use Rattle.rules.specs.statements.Statements as Statements

-- a round with device 0's answer
abbrev answer : DeviceAnswer → Call
answer x = round 64 (x ∷ [])

-- Area 1 ranks above area 0 and has a job when area 0's is accepted; its request is dropped at the limit, without a retry. Area 0's first segment starts, area 1
-- has the next job, and its request takes the device before area 0's second segment: two jobs ahead of it, one from its acceptance on, with own bounds of 2.
abbrev behind_two : List Call
behind_two =
    job Write 1 256 4 ∷ job Write 0 4 12 ∷ answer Pending ∷ answer Pending ∷ answer Pending ∷ job Write 1 256 4 ∷ answer Done ∷ answer Pending ∷ []

-- area 0's whole tally, its number, the jobs that were accepted, and what these can add
evaluated : let p : Plan = Records.plan_of plan_t in
    ((History.run p behind_two History.fresh_history).tallies 0 ≡ record { rounds = 5; own = 1; above = 4; below = 0; locked = 0; by_round = false })
    × (Statements.above_most p behind_two 0 ≡ 4)
    × (JobSets.accepted_jobs p behind_two History.fresh_history
    ≡ record { area = 1; task = task Write 256 4 } ∷ record { area = 0; task = task Write 4 12 } ∷ record { area = 1; task = task Write 256 4 } ∷ [])
    × (JobSets.jobs_above p 0 (JobSets.accepted_jobs p behind_two History.fresh_history) ≡ 4)
unfolding Bounded.every Bounded.some Bounded.sum FirstNo.first_no FirstNo.ask FirstNo.or_else Multiples.multiple Tables.table Parts.upd Number.number_at Records.device_at Records.area_at Records.granularity_at Records.sub_area_at Records.is_record Records.records_up_to Records.records_from Records.device_count_of Records.areas_start_of Records.area_count_of Records.sub_areas_start_of Records.sub_area_count_of Records.plan_of Records.records_end Records.wear_start_of Records.wear_count_of Questions.size_in Mapping.find Mapping.mapped Segments.burst_or_unit Segments.segment_at Segments.cut Segments.segments_from Segments.own_sum Segments.own_bound Ranks.ages_after Ranks.rank_above Layout.layout_of Machine.job_failed Machine.job_finished Machine.take_answer Machine.ready Machine.best Machine.start_device Machine.second_half Machine.wait_behind Machine.begin Admission.is_inside Admission.is_aligned Admission.fits_window Admission.job_questions Admission.image_fits Admission.store_reaches Admission.job_number Admission.round_number Admission.admits Round.take_in Round.take_all Round.round_halves History.fresh_history History.round_of History.submitted History.step History.run Statements.above_from JobSets.accepted_jobs JobSets.jobs_above
evaluated = (refl, refl, refl, refl)

pub above_reached : Statements.AboveReached
above_reached =
    record {
      plan = plan_t;
      accepted = examples.0;
      calls = behind_two;
      area = 0;
      some = rw evaluated.0 (omega arith);
      reached = rw (evaluated.0, evaluated.1);
    }
