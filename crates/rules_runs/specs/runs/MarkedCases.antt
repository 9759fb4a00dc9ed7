-- document 01, "On fresh T (m is marked)": the marked cases, in one list, on plan T as its bytes load
use Rattle.std.specs.Prelude.{ℕ, ◌≡◌, refl, List, [], ◌∷◌}
use Rattle.memory.specs.declared.JobType.{JobType}
use Rattle.memory.specs.declared.JobType.TheVariants.{Write, Read, Compare, Erase, BlankCheck, Lock}
use Rattle.plan.proofs.runs.Examples.{plan_t}
use Rattle.plan.specs.declared.records.Plan.{Plan}
use Rattle.segment.specs.declared.Segment.{Segment}
use Rattle.arith.specs.Bounded as Bounded
use Rattle.arith.specs.FirstNo as FirstNo
use Rattle.arith.specs.Multiples as Multiples
use Rattle.arith.specs.Tables as Tables
use Rattle.plan.specs.Number as Number
use Rattle.plan.specs.Records as Records
use Rattle.plan.specs.Questions as Questions
use Rattle.segment.specs.Mapping as Mapping
use Rattle.segment.specs.Segments as Segments
use Rattle.rules.specs.Admission as Admission
use Rattle.rules.specs.History as History
use Rattle.rules.proofs.runs.InfoRuns.{task}

abbrev pub t : Plan
t = Records.plan_of plan_t

-- `bytes n p`: n bytes at physical address p
pub data Range : Type 0 where
  bytes : ℕ → ℕ → Range

abbrev pub ranges : List Segment → List Range
ranges [] = []
ranges (s ∷ l) = bytes s.length s.start.0 ∷ ranges l

-- the segments of a job of area 0
abbrev pub cut_of : JobType → ℕ → ℕ → List Range
cut_of k address n = ranges (Segments.segments_from (Segments.segment_at t 0 (task k address n)) (task k address n) 0)

-- the number that a job gets on the fresh manager
abbrev pub answer : ℕ → JobType → ℕ → ℕ → ℕ
answer a k address n = Admission.job_number t (History.fresh_history).core a (task k address n)

-- both, of area 0
abbrev pub answered : JobType → ℕ → ℕ → ℕ × List Range
answered k address n = (answer 0 k address n, cut_of k address n)

pub marked_cases :
    (answered Write 4 12 ≡ (0, bytes 4 4 ∷ bytes 8 8 ∷ []))
    × (answered Write 8 12 ≡ (0, bytes 8 8 ∷ bytes 4 16 ∷ []))
    × (answered Erase 0 32 ≡ (0, bytes 32 0 ∷ []))
    × (answered Erase 16 16 ≡ (0, bytes 16 16 ∷ []))
    × (answered Read 3 13 ≡ (0, bytes 8 3 ∷ bytes 5 11 ∷ []))
    × (answer 0 Read 31 1 ≡ 0)
    × (answer 0 Read 31 2 ≡ 12)
    -- "Length 0: 12": the calls that question 12 is asked of with a length
    × (answer 0 Write 0 0 ≡ 12)
    × (answer 0 Read 0 0 ≡ 12)
    × (answer 0 Compare 0 0 ≡ 12)
    × (answer 0 Erase 0 0 ≡ 12)
    × (answer 0 BlankCheck 0 0 ≡ 12)
    × (answer 0 Lock 0 0 ≡ 12)
    × (Admission.release_number t (History.fresh_history).core 0 (record { 0 = 0 }) 0 ≡ 12)
    × (answer 0 Write 2 4 ≡ 13)
    × (answer 0 Read 0 16 ≡ 0)
    × (answer 0 Read 0 17 ≡ 14)
    × (answer 2 Read 0 1 ≡ 10)
unfolding Bounded.every Bounded.some Bounded.sum FirstNo.first_no FirstNo.ask FirstNo.or_else Multiples.multiple Tables.table Number.number_at Records.device_at Records.area_at Records.granularity_at Records.sub_area_at Records.is_record Records.records_up_to Records.records_from Records.device_count_of Records.areas_start_of Records.area_count_of Records.sub_areas_start_of Records.sub_area_count_of Records.records_end Records.wear_start_of Records.wear_count_of Records.record_layout Records.plan_of Records.empty_plan Questions.apart Questions.whole_records Questions.counts_fit Questions.device_due Questions.device_joins Questions.devices_join Questions.windows_apart Questions.windows_fit Questions.granularity_fits Questions.sizes_fit Questions.inside_device Questions.is_placed Questions.all_placed Questions.size_in Questions.space_fits Questions.spaces_fit Questions.sub_areas_apart Questions.record_questions Questions.plan_questions Questions.load_number Questions.loaded_plan Mapping.find Mapping.mapped Segments.burst_or_unit Segments.segment_at Segments.cut Segments.segments_from Segments.spans_after Segments.spans Segments.own_sum Segments.below_sum Segments.own_bound Segments.below_bound Admission.is_inside Admission.is_aligned Admission.fits_window Admission.on_one_device Admission.range_device Admission.job_questions Admission.release_questions Admission.cancel_questions Admission.info_questions Admission.memory_info_questions Admission.image_fits Admission.store_reaches Admission.job_number Admission.release_number Admission.cancel_number Admission.info_number Admission.memory_info_number Admission.round_number Admission.admits History.fresh_history History.round_of History.submitted History.step History.run
marked_cases = (refl, refl, refl, refl, refl, refl, refl, refl, refl, refl, refl, refl, refl, refl, refl, refl, refl, refl)
