use Rattle.std.proofs.Common.{sym, arith, length-take, ◌<◌}
use Rattle.std.proofs.lemmas.List.{get_or-take}
use Rattle.state.specs.Fresh.{free_device}
use Rattle.texts.specs.laws.PageLaws.{prints_none, prints_more, prints_same}
use Rattle.shown.specs.laws.ShownLaws.{shown_none, shown_more}
use Rattle.shown.proofs.device_texts.Goals as goal

pub loop-device-init : goal.loop-device-init
loop-device-init c = prints_same (sym (shown_none _ _)) (omega arith) (prints_none _)

pub loop-device-preserved : goal.loop-device-preserved
loop-device-preserved c =
    let a = c.args in
    let l = c.loop-device in
    let one : l.device-index < a.plan.device_count = omega (arith, simp length-take at c.loop-device-test.true) in
    prints_same (shown_more _ _ _) (omega arith)
    (prints_more l.invariant (rw (get_or-take a.plan.device_count a.devices l.device-index free_device one) at c.device_text.ensures))
