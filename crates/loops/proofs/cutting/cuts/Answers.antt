use Rattle.std.proofs.Common.{◌+◌, ◌≤◌, refl, ap, ap₂, ◌∙◌, subst, sym, arith}
use Rattle.manager.specs.laws.LoadLaws.{loaded_few}
use Rattle.loops.specs.Repeated.{repeated, total, repeated_more, total_more}
use Rattle.loops.specs.Cutting.{processed_next, cut_total}
use Rattle.loops.proofs.cutting.cuts.Goals as goal

pub loop-turn-init : goal.loop-turn-init
unfolding repeated total
loop-turn-init c = (omega arith, refl, refl, omega arith)

pub segment_at-segment-requires : goal.segment_at-segment-requires
segment_at-segment-requires c = (subst (λ m. m.plan.sub_area_count ≤ 32) (sym c.load.ensures.manager_value) (loaded_few _), omega arith)

pub loop-turn-preserved : goal.loop-turn-preserved
loop-turn-preserved c =
    let here = c.loop-turn in
    let inv = here.invariant in
    let task = c.task_of-task.ensures.value in
    let called = c.processed_next-processed.ensures in
    let cut = called.0 ∙ ap₂ (λ n s. processed_next n here.processed s.length) (sym (ap (λ t. t.length) task)) c.segment_at-segment.ensures in (
      called.1,
      rw (repeated_more, ← inv.1) cut,
      rw (total_more, ← inv.1, ← inv.2) (ap (◌+◌ _) cut),
      omega arith,
    )

pub returns : goal.returns
returns c =
    c.loop-turn.invariant.2
    ∙ ap (cut_total _ _) (omega arith)
    ∙ ap₂ (λ m t. cut_total m.plan t c.args.times) c.load.ensures.manager_value c.task_of-task.ensures.value
