use Rattle.std.proofs.Common.{◌+◌, ◌≡◌, refl, ap, ap₂, ◌∙◌, arith}
use Rattle.manager.specs.Calls.{job_number_of, after_job}
use Rattle.loops.specs.Repeated.{turn, repeated, total, repeated_more, total_more, job_total}
use Rattle.loops.proofs.jobs.Goals as goal

pub loop-i-init : goal.loop-i-init
unfolding repeated total
loop-i-init g c = (refl, refl, omega arith)

pub loop-i-preserved : goal.loop-i-preserved
loop-i-preserved g c =
    let here = c.loop-i in
    let inv = here.invariant in
    let task = c.task_of-task.ensures.value in
    let called = c.submit-answer.ensures in
    let m = g.O.Owner.owned here.owner in (
      rw (repeated_more, ← inv.0) (called.manager_value ∙ ap (after_job m (turn here.i)) task),
      rw (total_more, ← inv.0, ← inv.1) (ap (◌+◌ _) (c.answer_number.ensures ∙ called.answer_value ∙ ap (job_number_of m (turn here.i)) task)),
      omega arith,
    )

pub returns : goal.returns
returns g c =
    let here = c.loop-i in
    let none : here.sum + c.rest.result ≡ here.sum = omega (arith, c.rest.ensures) in
    none ∙ here.invariant.1 ∙ ap₂ (job_total _ _) (c.of-owner.ensures ∙ c.load.ensures.manager_value) (omega arith)
