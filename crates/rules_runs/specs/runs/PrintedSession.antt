-- document 01, "A printed session": the ten lines and the ten entries, evaluated over the definitions.
-- "Area 0: 6 = 1 + 4 + 1. Area 1: 3 = 1 + 1 + 1."
use Rattle.std.specs.Prelude.{◌≡◌, refl, true, List, [], ◌∷◌, replicate}
use Rattle.memory.specs.declared.DeviceAnswer.TheVariants.{Pending, Done, Failed}
use Rattle.memory.specs.declared.JobType.TheVariants.{Write}
use Rattle.plan.proofs.runs.Examples.{plan_t}
use Rattle.arith.specs.Bounded as Bounded
use Rattle.arith.specs.FirstNo as FirstNo
use Rattle.arith.specs.Listed as Listed
use Rattle.arith.specs.Multiples as Multiples
use Rattle.arith.specs.Tables as Tables
use Rattle.arith.specs.Parts as Parts
use Rattle.plan.specs.Number as Number
use Rattle.plan.specs.Records as Records
use Rattle.plan.specs.Questions as Questions
use Rattle.segment.specs.Mapping as Mapping
use Rattle.segment.specs.Segments as Segments
use Rattle.rules.specs.Layout as Layout
use Rattle.rules.specs.Ranks as Ranks
use Rattle.rules.specs.Machine as Machine
use Rattle.rules.specs.Admission as Admission
use Rattle.rules.specs.Round as Round
use Rattle.rules.specs.History as History
use Rattle.rules.specs.Queries as Queries
use Rattle.rules.specs.Session as Session

pub lines : List Session.Line
lines =
    Session.call (History.submit 0 (record { kind = Write; address = record { 0 = 4 }; length = 12 }))
    ∷ Session.answers (Pending ∷ [])
    ∷ Session.call (History.submit 1 (record { kind = Write; address = record { 0 = 256 }; length = 4 }))
    ∷ Session.answers (Pending ∷ [])
    ∷ Session.answers (Done ∷ [])
    ∷ Session.answers (Done ∷ [])
    ∷ Session.answers (Failed 0 ∷ [])
    ∷ Session.answers (Done ∷ [])
    ∷ Session.call (History.asks (History.job_info 0))
    ∷ Session.call (History.asks (History.job_info 1))
    ∷ []

pub entries : List Session.Entry
entries =
    Session.number 0
    ∷ Session.devices (Session.request 0 1 4 4 ∷ [])
    ∷ Session.number 0
    ∷ Session.devices (Session.request 0 1 4 4 ∷ [])
    ∷ Session.devices (Session.request 1 1 32 4 ∷ [])
    ∷ Session.devices (Session.request 0 1 8 8 ∷ [])
    ∷ Session.devices (Session.request 0 1 8 8 ∷ [])
    ∷ Session.devices (Session.nothing ∷ [])
    ∷ Session.info 0 12 4 1 0 0
    ∷ Session.info 0 4 1 0 1 0
    ∷ []

-- "image all 255, store 65,536 zeros"
pub bench : Session.Bench
bench =
    record {
      history = History.fresh_history;
      memory = record { image = replicate 64 255; store = replicate 65536 0 };
      printed = [];
    }

pub final : Session.Bench
final = Session.play (Records.plan_of plan_t) lines bench

pub printed_session :
    (final.printed ≡ entries)
    × (final.history.tallies 0 ≡ record { rounds = 6; own = 4; above = 1; below = 0; locked = 0; by_round = true })
    × (final.history.tallies 1 ≡ record { rounds = 3; own = 1; above = 0; below = 1; locked = 0; by_round = true })
unfolding Bounded.every Bounded.some Bounded.sum FirstNo.first_no FirstNo.ask FirstNo.or_else Listed.listed Multiples.multiple Tables.table Parts.part Parts.put Parts.upd Number.number_at Records.device_at Records.area_at Records.granularity_at Records.sub_area_at Records.is_record Records.records_up_to Records.records_from Records.device_count_of Records.areas_start_of Records.area_count_of Records.sub_areas_start_of Records.sub_area_count_of Records.records_end Records.wear_start_of Records.wear_count_of Records.record_layout Records.plan_of Records.empty_plan Questions.apart Questions.whole_records Questions.counts_fit Questions.device_due Questions.device_joins Questions.devices_join Questions.windows_apart Questions.windows_fit Questions.granularity_fits Questions.sizes_fit Questions.inside_device Questions.is_placed Questions.all_placed Questions.size_in Questions.space_fits Questions.spaces_fit Questions.sub_areas_apart Questions.record_questions Questions.plan_questions Questions.load_number Questions.loaded_plan Mapping.find Mapping.mapped Segments.burst_or_unit Segments.segment_at Segments.cut Segments.segments_from Segments.spans_after Segments.spans Segments.own_sum Segments.below_sum Segments.own_bound Segments.below_bound Ranks.ages_after Ranks.rank_above Layout.layout_of Machine.job_failed Machine.job_finished Machine.job_differs Machine.take_answer Machine.first_half Machine.ready Machine.best Machine.start_device Machine.second_half Machine.wait_behind Machine.cancel Machine.begin Machine.release Admission.is_inside Admission.is_aligned Admission.fits_window Admission.on_one_device Admission.range_device Admission.job_questions Admission.release_questions Admission.cancel_questions Admission.info_questions Admission.memory_info_questions Admission.image_fits Admission.store_reaches Admission.job_number Admission.release_number Admission.cancel_number Admission.info_number Admission.memory_info_number Admission.round_number Round.take_in Round.take_all Round.round_halves History.fresh_history History.round_of History.submitted History.step History.run Queries.job_info_of Queries.memory_info_of Session.shown_to Session.entry_of Session.play_line Session.play lines entries bench final
printed_session = (refl, refl, refl)
