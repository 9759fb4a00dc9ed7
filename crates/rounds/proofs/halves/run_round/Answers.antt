use Prim.Native.Nat.{ℕ}
use mathlib.Core.List.{[]}
use mathlib.Core.Path.{◌≡◌, refl, sym, ap, ◌∙◌}
use native.Mathlib.Omega.{arith}
use lib.ListN.{get_or, set, replicate, length-set}
use Rattle.answers.specs.Worn.{worn_on}
use Rattle.arith.specs.Tables.{table, table_more}
use Rattle.segment.specs.Segments.{no_segment}
use Rattle.machine.specs.laws.SoundCases.{sound_counts}
use Rattle.devices.specs.Arrays.{job_in, state_in, core_in}
use Rattle.effects.specs.Effects.{memory_of}
use Rattle.rules.specs.Machine.{second_half}
use Rattle.rules.specs.Round.{take_all, answer_for}
use Rattle.wear.specs.Wear.{no_worn, add_worn}
use Rattle.wear.specs.declared.Worn.{Worn}
use Rattle.close.specs.Close.{area_after, lent_to}
use Rattle.rounds.specs.laws.AnswerLaws.{turn_sound, image_again, store_again}
use Rattle.rounds.specs.laws.CloseLaws.{closed_none, closed_turn, closed_all}
use Rattle.rounds.specs.laws.Halves.{both, take_turn}
use Rattle.rounds.specs.laws.NeedLaws.{whole_areas, whole_devices, whole_memory}
use Rattle.rounds.specs.laws.PickLaws.{start_turn, second_turn}
use Rattle.close.specs.laws.Waits.{needs_layout}
use Rattle.rounds.specs.laws.Turns.{lent_turn, whole_turn}
use Rattle.rounds.specs.laws.WearTurns.{worn_for, wear_all}
use borrow.Author.Rules.{elem_Fits}
use Rattle.rounds.proofs.halves.run_round.Goals as goal

pub loop-k-init : goal.loop-k-init
unfolding table
loop-k-init c =
    record { few_devices = (sound_counts c.args.plan c.args.areas c.args.devices c.requires.0).0; worn = ap (replicate 4) c.none-worn.ensures }

pub loop-k-preserved : goal.loop-k-preserved
loop-k-preserved c =
    let s = c in
    let l = c.loop-k in
    let found : ℕ → Worn = λ a. worn_on (state_in s.args.devices l.k) (answer_for s.args.answers l.k) (job_in s.args.areas a).task.kind (get_or s.args.dues a no_segment) in
    let is : c.worn_by.result ≡ worn_for s.args.areas s.args.devices s.args.dues s.args.answers l.k = c.worn_by.ensures ∙ ap found c.runner-area.ensures.value in
    record { few_devices = l.invariant.few_devices; worn = (λ i. set (l.invariant.worn i) l.k (is i)) ∙ sym (table_more 4 _ _ _) }

pub loop-d-init : goal.loop-d-init
unfolding take_all
loop-d-init c =
    let few = sound_counts c.args.plan c.args.areas c.args.devices c.requires.0 in
    record {
      few_devices = few.0;
      few_areas = few.1;
      few_sub_areas = few.2;
      sub_areas = refl;
      records = refl;
      device_records = refl;
      image_stays = refl;
      store_stays = refl;
      areas_are = omega arith;
      devices_are = omega arith;
      dues_are = omega arith;
      answered = refl;
      due = c.requires.3;
    }

pub take_answer-turn-requires : goal.take_answer-turn-requires
take_answer-turn-requires c =
    let s = c in
    let p = s.args.plan in
    let l = c.loop-d in
    let i = l.invariant in (
      i.few_sub_areas,
      lent_turn p i.few_areas l.d (answer_for s.args.answers l.d) l.areas l.devices l.dues l.image l.store
          (turn_sound p s.args.areas s.args.devices s.requires.0 s.args.answers (memory_of s.args.image.now s.args.store.now) l.d (core_in l.areas l.devices) (ap (λ x. x.0) i.answered) c.loop-d-test.true)
          (image_again _ _ _ i.image_stays s.requires.1) (store_again _ _ _ i.store_stays s.requires.2) i.due _ _ _ i.sub_areas i.records i.device_records c.runner-area-in-loop-d.result c.runner-area-in-loop-d.ensures.value,
    )

pub loop-d-preserved : goal.loop-d-preserved
loop-d-preserved c =
    let s = c in
    let p = s.args.plan in
    let l = c.loop-d in
    let i = l.invariant in
    let t = c.take_answer-turn in
    let turn = whole_turn p i.few_areas l.d (answer_for s.args.answers l.d) l.areas l.devices l.dues l.image l.store
    (turn_sound p s.args.areas s.args.devices s.requires.0 s.args.answers (memory_of s.args.image.now s.args.store.now) l.d (core_in l.areas l.devices) (ap (λ x. x.0) i.answered) c.loop-d-test.true)
    (image_again _ _ _ i.image_stays s.requires.1) (store_again _ _ _ i.store_stays s.requires.2) i.due _ _ _ i.sub_areas i.records i.device_records c.runner-area-in-loop-d.result c.runner-area-in-loop-d.ensures.value i.areas_are i.devices_are i.dues_are (omega (arith, i.few_devices, c.loop-d-test.true))
    t.result.area t.result.due t.result.device _ _ t.ensures.area_value t.ensures.due_value t.ensures.device_value t.ensures.image_after t.ensures.store_after in
    record {
      few_devices = i.few_devices;
      few_areas = i.few_areas;
      few_sub_areas = i.few_sub_areas;
      sub_areas = i.sub_areas;
      records = i.records;
      device_records = i.device_records;
      image_stays = omega (arith, i.image_stays);
      store_stays = omega (arith, i.store_stays);
      areas_are = rw length-set i.areas_are;
      devices_are = rw length-set i.devices_are;
      dues_are = rw length-set i.dues_are;
      answered = turn.0 ∙ take_turn p s.args.answers (lent_to s.args.areas s.args.devices (memory_of s.args.image.now s.args.store.now)) l.d (core_in l.areas l.devices, memory_of l.image l.store) i.answered;
      due = turn.1;
    }

pub loop-e-init : goal.loop-e-init
unfolding second_half
loop-e-init c = record { areas_are = c.loop-d.invariant.areas_are; devices_are = c.loop-d.invariant.devices_are; picked = refl }

pub pick_area-best-requires : goal.pick_area-best-requires
pick_area-best-requires c = c.loop-d.invariant.few_areas

pub loop-e-preserved : goal.loop-e-preserved
loop-e-preserved c =
    let s = c in
    let p = s.args.plan in
    let rules = c.needed_devices-needs.result in
    let l = c.loop-e in
    let i = l.invariant in
    record {
      areas_are = rw length-set i.areas_are;
      devices_are = rw length-set i.devices_are;
      picked =
          second_turn (needs_layout p.areas s.args.ages p.area_count p.devices rules) l.e _ _ _ i.picked
          (start_turn l.e l.areas l.devices i.areas_are (omega (arith, c.loop-e-test.true, c.loop-d.invariant.few_devices, i.devices_are)) p.areas s.args.ages p.area_count c.loop-d.invariant.few_areas p.devices rules
          c.runner.result c.runner.ensures.value c.slot_on-slot.result c.slot_on-slot.ensures c.pick_area-best.result c.pick_area-best.ensures c.chosen-area.result c.chosen-area.ensures.value c.start_choice-start.result c.start_choice-start.ensures);
    }

pub loop-a-init : goal.loop-a-init
loop-a-init c =
    let p = c.args.plan in
    let l = c.loop-e in
    closed_none (area_after (needs_layout p.areas c.args.ages 0 [] c.needed_devices-needs.result) c.args.areas (core_in l.areas l.devices)) l.areas l.invariant.areas_are

pub overflow_cast-needs : goal.overflow_cast-needs
overflow_cast-needs c = elem_Fits _ _ c.needed_devices-needs.result _ c.loop-a.a c.needed_devices-needs.type_inv.1.1 tt

pub loop-a-preserved : goal.loop-a-preserved
loop-a-preserved c =
    let s = c in
    let p = s.args.plan in
    let h = c.loop-e in
    let l = c.loop-a in
    closed_turn p.areas s.args.ages c.needed_devices-needs.result s.args.areas h.areas h.devices l.a l.areas l.invariant c.loop-a-test.true
    c.state_on-state.result c.state_on-state.ensures c.closed_area.result c.closed_area.ensures

pub returns : goal.returns
returns c =
    let s = c in
    let p = s.args.plan in
    let m = memory_of s.args.image.now s.args.store.now in
    let rules = c.needed_devices-needs.result in
    let h = c.loop-d in
    let worn = c.loop-k in
    let k = c.loop-e in
    let l = c.loop-a in
    let asked : worn.k ≡ p.device_count = omega arith in
    let answered : h.d ≡ p.device_count = omega arith in
    let first = h.invariant.answered ∙ ap (λ n. both (take_all p s.args.answers n (lent_to s.args.areas s.args.devices m))) answered in
    let picked : k.e ≡ p.device_count = omega arith in
    let second = k.invariant.picked ∙ ap (λ n. second_half (needs_layout p.areas s.args.ages p.area_count p.devices rules) n (core_in h.areas h.devices)) picked in
    let closed = closed_all (needs_layout p.areas s.args.ages 0 [] rules) s.args.areas k.areas (core_in k.areas k.devices) l.a l.areas (omega arith) l.invariant in
    record {
      areas_value =
          whole_areas p s.args.areas s.args.devices s.args.ages s.args.answers m h.invariant.few_areas h.areas h.devices (ap (λ x. x.0) first) h.dues h.invariant.due
          rules c.needed_devices-needs.ensures k.areas k.devices second l.areas closed;
      devices_value =
          whole_devices p s.args.areas s.args.devices s.args.ages s.args.answers m h.invariant.few_areas h.areas h.devices (ap (λ x. x.0) first) h.dues h.invariant.due
          rules c.needed_devices-needs.ensures k.areas k.devices second k.invariant.devices_are;
      worn_value = λ wear.
          ap (λ x. add_worn x 4 wear) (worn.invariant.worn ∙ ap (table 4 (worn_for s.args.areas s.args.devices s.args.dues s.args.answers) no_worn) asked)
          ∙ wear_all p s.args.areas s.args.devices s.requires.0 s.args.answers m s.args.dues s.requires.3 wear;
      image_after = ap (λ x. x.1.image) first ∙ ap (λ x. x.image) (whole_memory p s.args.areas s.args.devices s.args.ages s.args.answers m);
      store_after = ap (λ x. x.1.store) first ∙ ap (λ x. x.store) (whole_memory p s.args.areas s.args.devices s.args.ages s.args.answers m);
    }
