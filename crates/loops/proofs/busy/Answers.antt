use Rattle.std.proofs.Common.{◌≡◌, ◌%◌, refl, ap₂, ◌∙◌, arith}
use Rattle.loops.specs.Repeated.{repeated, repeated_more, next_job, busy_manager}
use Rattle.manager.specs.Calls.{after_job}
use Rattle.loops.proofs.busy.Goals as goal

pub loop-area-init : goal.loop-area-init
unfolding repeated
loop-area-init c = refl

pub loop-area-preserved : goal.loop-area-preserved
loop-area-preserved c =
    let here = c.loop-area in
    let turn : here.area ≡ here.area % 8 = omega arith in
    rw (repeated_more, ← here.invariant)
    (c.submit.ensures.manager_value ∙ ap₂ (after_job here.owner.manager) turn c.task_of-task.ensures.value)

pub returns : goal.returns
unfolding busy_manager
returns c =
    c.manager.ensures ∙ c.loop-area.invariant ∙ ap₂ (repeated (next_job _ _)) (c.of-owner.ensures ∙ c.load.ensures.manager_value) (omega arith)
