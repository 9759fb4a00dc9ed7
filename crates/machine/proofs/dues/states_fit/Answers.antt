use Rattle.std.proofs.Common.{◌∙◌, sym, arith, refl}
use Rattle.arith.specs.Bounded.{every, every_fails, every_more}
use Rattle.machine.specs.laws.Dues.{state_turn}
use Rattle.machine.proofs.dues.states_fit.Goals as goal

pub loop-d-init : goal.loop-d-init
unfolding every
loop-d-init c = refl

pub returns-then-not-state_fits : goal.returns-then-not-state_fits
returns-then-not-state_fits c =
    let a = c.args in
    sym
    (every_fails _ _ _ (omega arith)
    (state_turn a.device_records a.device_count a.area_records a.area_count a.areas a.devices a.dues c.loop-d.d _ c.runner-area.ensures.value _ c.device_sum-sum.ensures.0 _ c.state_fits.ensures ∙ c.if-not-state_fits.true))

pub loop-d-preserved : goal.loop-d-preserved
loop-d-preserved c =
    let a = c.args in
    every_more _ _ c.loop-d.invariant
    (state_turn a.device_records a.device_count a.area_records a.area_count a.areas a.devices a.dues c.loop-d.d _ c.runner-area.ensures.value _ c.device_sum-sum.ensures.0 _ c.state_fits.ensures ∙ c.if-not-state_fits.false)
