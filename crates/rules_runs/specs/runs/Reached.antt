-- The bounds of demand 3 are reached, on chips that cannot suspend and on chips that can: a run on each, evaluated.
use Rattle.std.specs.Prelude.{ℕ, ◌≤◌, Bool, true, false, ◌≡◌, refl, List, [], ◌∷◌, ◌++◌, replicate}
use Rattle.std.proofs.Common.{sym, subst, arith}
use Rattle.memory.specs.declared.DeviceAnswer.{DeviceAnswer}
use Rattle.memory.specs.declared.DeviceAnswer.TheVariants.{Pending, Done}
use Rattle.memory.specs.declared.JobType.TheVariants.{Read, Erase}
use Rattle.plan.proofs.runs.Examples.{marked_device, area, sub_area, sizes}
use Rattle.plan.specs.declared.records.Plan.{Plan}
use Rattle.arith.specs.Bounded as Bounded
use Rattle.arith.specs.Bounded.{below_suc}
use Rattle.arith.specs.FirstNo as FirstNo
use Rattle.arith.specs.Multiples as Multiples
use Rattle.arith.specs.Tables as Tables
use Rattle.arith.specs.Parts as Parts
use Rattle.plan.specs.Number as Number
use Rattle.plan.specs.Records as Records
use Rattle.plan.specs.Questions as Questions
use Rattle.segment.specs.Mapping as Mapping
use Rattle.segment.specs.Segments as Segments
use Rattle.segment.specs.declared.Segment.{Segment}
use Rattle.rules.specs.Layout as Layout
use Rattle.rules.specs.Ranks as Ranks
use Rattle.rules.specs.Machine as Machine
use Rattle.rules.specs.Admission as Admission
use Rattle.rules.specs.statements.Statements.{Differ, ReachedOn, BoundsReached, segments_of, own_most, below_most}
use Rattle.rules.specs.Round as Round
use Rattle.rules.specs.History as History
use Rattle.rules.specs.History.{Call}
use Rattle.rules.proofs.runs.InfoRuns.{round, job}

-- Two devices with this second byte of their marks: device 0 of limit 2, device 1 of limit 3. Four areas, ranked by their numbers, each with a sector on device 1
-- and, but for area 3, one on device 0 behind it; area 2 has an erase retry on device 1, and two sectors on device 0.
abbrev plan_w : ℕ → List ℕ
plan_w second =
    let sector = sizes 4 4 4 4 1 4 in
    marked_device second 0 16 2 ++ marked_device second 16 16 3 ++ area 1 0 0 0 ++ area 5 256 0 4 ++ area 9 512 4 0 ++ area 12 768 4 4
    ++ sub_area 0 1 16 sector 1 0 0 ++ sub_area 0 0 0 sector 1 0 0 ++ sub_area 1 1 20 sector 1 0 0 ++ sub_area 1 0 4 sector 1 0 0
    ++ sub_area 2 1 24 sector 1 0 1 ++ sub_area 2 0 8 sector 2 0 0 ++ sub_area 3 1 28 sector 1 0 0

-- a round with the answers of devices 0 and 1
abbrev answers : DeviceAnswer → DeviceAnswer → Call
answers x y = round 32 (x ∷ y ∷ [])

-- n rounds with nothing but pending answers
abbrev rounds : ℕ → List Call
rounds n = replicate n (answers Pending Pending)

-- area 2's erase of three sectors: one on device 1, two on device 0
abbrev erase : Call
erase = job Erase 2 512 12

-- both sectors on device 0 are done at the last answer before the limit
abbrev ends : List Call
ends = answers Done Pending ∷ rounds 1 ++ answers Done Pending ∷ []

-- Chips that cannot suspend. The erase is submitted when a read of area 1 has just been started on device 1: 2 rounds below, then the read is dropped. The sector
-- there is dropped once, and done at the last answer before the limit. When it is, a read of area 1 has been started on device 0, a round before: 1 round below.
abbrev behind_reads : List Call
behind_reads = job Read 1 256 4 ∷ rounds 1 ++ erase ∷ rounds 7 ++ job Read 1 260 4 ∷ rounds 1 ++ answers Pending Done ∷ rounds 2 ++ ends

-- Chips that can. The erase is submitted when a read of area 1 has just been started on device 1 over an erase of area 0 with one poll: the read is dropped, the lower
-- erase resumes and is dropped, 2 and 2 rounds below. With two polls area 2's erase is suspended for a read of area 3, 1 round above; resumed, it is dropped, and
-- then done. When it is, a read of area 1 over an erase of area 0 has been started on device 0 too: 1 and 1 rounds below.
abbrev behind_erases : List Call
behind_erases =
    job Erase 0 0 4 ∷ rounds 1 ++ job Read 1 256 4 ∷ rounds 1 ++ erase ∷ rounds 6 ++ job Read 3 768 4 ∷ rounds 1 ++ answers Pending Done ∷ rounds 1
    ++ job Erase 0 4 4 ∷ rounds 1 ++ job Read 1 260 4 ∷ rounds 1 ++ answers Pending Done ∷ rounds 3 ++ ends

-- a sector of area 2 in sub-area i on device d at physical address x
abbrev sector_on : ℕ → ℕ → ℕ → ℕ → Segment
sector_on i d x retries = record { start = record { 0 = x }; length = 4; device = d; retries = retries; sub_area = i; sector = 4 }

abbrev loaded : ℕ → Plan
loaded second = Records.plan_of (plan_w second)

abbrev after : ℕ → List Call → History.History
after second calls = History.run (loaded second) calls History.fresh_history

-- What is evaluated of a run on plan W, with area 2's tally. Own is 3 * (1 + 1) of the sector on device 1 and 2 * (0 + 1) of each on device 0; below is
-- (3 - 1) + (2 - 1), or twice that.
record Evaluated (second : ℕ) (can : Bool) (calls : List Call) (rounds above below : ℕ) : Type 0 where
  accepted : Questions.load_number (plan_w second) ≡ 0
  devices : (loaded second).device_count ≡ 2
  chip0 : (Layout.layout_of (loaded second)).suspends 0 ≡ can
  chip1 : (Layout.layout_of (loaded second)).suspends 1 ≡ can
  limit0 : (Layout.layout_of (loaded second)).limit 0 ≡ 2
  limit1 : (Layout.layout_of (loaded second)).limit 1 ≡ 3
  segments : segments_of (loaded second) (after second calls) 2 ≡ sector_on 4 1 24 1 ∷ sector_on 5 0 8 0 ∷ sector_on 5 0 12 0 ∷ []
  spans : Segments.spans (segments_of (loaded second) (after second calls) 2) ≡ 1 ∷ 0 ∷ []
  tally : (after second calls).tallies 2 ≡ record { rounds = rounds; own = 10; above = above; below = below; locked = 0; by_round = true }
  own_most_lem : own_most (loaded second) (after second calls) 2 ≡ 10
  below_most_lem : below_most (loaded second) (after second calls) 2 ≡ below

runs : Evaluated 86 false behind_reads 14 0 3 × Evaluated 83 true behind_erases 18 1 6
unfolding Bounded.every Bounded.some Bounded.sum FirstNo.first_no FirstNo.ask FirstNo.or_else Multiples.multiple Tables.table Parts.upd Number.number_at Records.device_at Records.area_at Records.granularity_at Records.sub_area_at Records.is_record Records.records_up_to Records.records_from Records.device_count_of Records.areas_start_of Records.area_count_of Records.sub_areas_start_of Records.sub_area_count_of Records.plan_of Questions.load_number Questions.whole_records Questions.plan_questions Questions.record_questions Questions.counts_fit Questions.devices_join Questions.device_joins Questions.device_due Questions.windows_fit Questions.windows_apart Questions.apart Questions.sizes_fit Questions.granularity_fits Questions.all_placed Questions.is_placed Questions.inside_device Questions.spaces_fit Questions.space_fits Questions.sub_areas_apart Records.records_end Records.wear_start_of Records.wear_count_of Questions.size_in Mapping.find Mapping.mapped Segments.burst_or_unit Segments.segment_at Segments.cut Segments.segments_from Segments.spans_after Segments.spans Segments.own_sum Segments.below_sum Segments.own_bound Segments.below_bound Ranks.ages_after Ranks.rank_above Layout.layout_of Machine.job_failed Machine.job_finished Machine.take_answer Machine.ready Machine.best Machine.start_device Machine.second_half Machine.wait_behind Machine.begin Admission.is_inside Admission.is_aligned Admission.fits_window Admission.job_questions Admission.image_fits Admission.store_reaches Admission.job_number Admission.round_number Round.take_in Round.take_all Round.round_halves History.fresh_history History.round_of History.submitted History.step History.run
runs = (
  record { accepted = refl; devices = refl; chip0 = refl; chip1 = refl; limit0 = refl; limit1 = refl; segments = refl; spans = refl; tally = refl; own_most_lem = refl; below_most_lem = refl },
  record { accepted = refl; devices = refl; chip0 = refl; chip1 = refl; limit0 = refl; limit1 = refl; segments = refl; spans = refl; tally = refl; own_most_lem = refl; below_most_lem = refl },
)

-- what such a run shows
reached_by : (second : ℕ) (can : Bool) (calls : List Call) (rounds above below : ℕ) → 1 ≤ below → Evaluated second can calls rounds above below → ReachedOn can
reached_by second can calls rounds above below some e =
    record {
      plan = plan_w second;
      accepted = e.accepted;
      chips = λ d l. below_suc d 1 (rw e.devices at l) (λ z. rw z e.chip1) (λ g. below_suc d 0 g (λ z. rw z e.chip0) (λ z. absurd (omega arith)));
      calls = calls;
      area = 2;
      reached = record {
        spans_many = rw e.spans (omega arith);
        segments_more = rw (e.spans, e.segments) (omega arith);
        limits_differ = subst (Differ (λ s. (Layout.layout_of (loaded second)).limit s.device)) (sym e.segments)
            (record { one = 0; other = 1; one_known = omega arith; other_known = omega arith; differ = λ z. absurd (omega (arith, e.limit0, e.limit1, z)) });
        retries_differ = subst (Differ (λ s. s.retries)) (sym e.segments)
            (record { one = 0; other = 1; one_known = omega arith; other_known = omega arith; differ = λ z. absurd (omega (arith, z)) });
        own_some = rw e.tally (omega arith);
        own_reached = rw (e.tally, e.own_most_lem);
        below_some = rw e.tally some;
        below_reached = rw (e.tally, e.below_most_lem);
      };
    }

-- one job reaches both bounds
pub bounds_reached : BoundsReached
bounds_reached false = reached_by 86 false behind_reads 14 0 3 (omega arith) runs.0
bounds_reached true = reached_by 83 true behind_erases 18 1 6 (omega arith) runs.1
