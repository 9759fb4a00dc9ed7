use Rattle.std.proofs.Common.{◌∙◌, sym, arith, refl}
use Rattle.arith.specs.Bounded.{every, every_fails, every_more}
use Rattle.machine.specs.laws.Dues.{running_decides}
use Rattle.machine.proofs.soundness.devices_sound.Goals as goal

pub loop-d-init : goal.loop-d-init
unfolding every
loop-d-init c = refl

pub returns-then-not-state_fits : goal.returns-then-not-state_fits
returns-then-not-state_fits c =
    sym
    (every_fails _ _ _ (omega arith)
    (sym (c.state_fits.ensures
    ∙ running_decides c.args.plan c.requires.1 _ refl _ refl _ c.device_sum-sum.ensures.0 c.loop-d.d c.args.areas _ _ c.runner-area.ensures.value _ c.running_segment-segment.ensures)
    ∙ c.if-not-state_fits.true))

pub loop-d-preserved : goal.loop-d-preserved
loop-d-preserved c =
    every_more _ _ c.loop-d.invariant
    (sym (c.state_fits.ensures
    ∙ running_decides c.args.plan c.requires.1 _ refl _ refl _ c.device_sum-sum.ensures.0 c.loop-d.d c.args.areas _ _ c.runner-area.ensures.value _ c.running_segment-segment.ensures)
    ∙ c.if-not-state_fits.false)
