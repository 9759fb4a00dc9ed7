use Rattle.std.proofs.Common.{◌+◌, ◌≡◌, refl, ap, ap₂, ◌∙◌, arith}
use Rattle.loops.specs.Repeated.{repeated, total, repeated_more, total_more, cancel_total}
use Rattle.loops.proofs.cancels.Goals as goal

pub loop-i-init : goal.loop-i-init
unfolding repeated total
loop-i-init g c = (refl, refl, omega arith)

pub loop-i-preserved : goal.loop-i-preserved
loop-i-preserved g c =
    let inv = c.loop-i.invariant in
    let called = c.cancel-answer.ensures in (
      rw (repeated_more, ← inv.0) called.manager_value,
      rw (total_more, ← inv.0, ← inv.1) (ap (◌+◌ _) (c.answer_number.ensures ∙ called.answer_value)),
      omega arith,
    )

pub returns : goal.returns
returns g c =
    let here = c.loop-i in
    let none : here.sum + c.rest.result ≡ here.sum = omega (arith, c.rest.ensures) in
    none ∙ here.invariant.1 ∙ ap₂ cancel_total (c.of-owner.ensures ∙ c.load.ensures.manager_value) (omega arith)
