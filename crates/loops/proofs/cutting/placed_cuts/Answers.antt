use Rattle.std.proofs.Common.{◌+◌, ◌-◌, ◌%◌, refl, ap, ap₂, ◌∙◌, sym, arith}
use Rattle.plan.specs.Questions.{sub_area_of}
use Rattle.segment.specs.laws.Found.{segment_if}
use Rattle.loops.specs.Repeated.{repeated, total, repeated_more, total_more}
use Rattle.loops.specs.Cutting.{processed_next, placed_total}
use Rattle.loops.proofs.cutting.placed_cuts.Goals as goal

pub loop-i-init : goal.loop-i-init
unfolding repeated total
loop-i-init c = (omega arith, refl, refl, omega arith)

pub segment_found-segment-requires : goal.segment_found-segment-requires
segment_found-segment-requires c = c.place_in-found.ensures.1

pub loop-i-preserved : goal.loop-i-preserved
loop-i-preserved c =
    let here = c.loop-i in
    let inv = here.invariant in
    let made = c.task_of-task in
    let task = made.result in
    let records = c.load.result.manager.plan.sub_areas in
    let called = c.processed_next-processed.ensures in
    let segment = c.segment_found-segment.ensures ∙ ap (segment_if task.kind (sub_area_of records (here.i % 32)) (task.length - here.processed)) c.place_in-found.ensures.0 in
    let cut = called.0 ∙ ap₂ (λ n s. processed_next n here.processed s.length) (sym (ap (λ t. t.length) made.ensures.value)) segment in (
      called.1,
      rw (repeated_more, ← inv.1) cut,
      rw (total_more, ← inv.1, ← inv.2) (ap (◌+◌ _) cut),
      omega arith,
    )

pub returns : goal.returns
returns c =
    let here = c.loop-i in
    let loaded = c.load in
    let made = c.task_of-task in
    let times = c.args.times in
    here.invariant.2
    ∙ ap (placed_total loaded.result.manager.plan.sub_areas made.result) {x = here.i} {y = times} (omega arith)
    ∙ ap₂ (λ m t. placed_total m.plan.sub_areas t times) loaded.ensures.manager_value made.ensures.value
