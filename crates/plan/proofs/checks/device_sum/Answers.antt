use Rattle.std.proofs.Common.{◌<◌, ◌∙◌, refl, ap, ℕ, arith, get_or-take, length-take}
use Rattle.arith.specs.Bounded.{sum}
use Rattle.plan.specs.Records.{no_device}
use Rattle.plan.specs.Questions.{length_sum}
use Rattle.plan.specs.declared.records.DeviceRecord.{DeviceRecord}
use Rattle.plan.proofs.laws.SizeLaws.{length_more}
use Rattle.plan.proofs.checks.device_sum.Goals as goal

pub loop-device-init : goal.loop-device-init
unfolding sum
loop-device-init c = (refl, omega arith)

pub loop-device-preserved : goal.loop-device-preserved
loop-device-preserved c =
    let l = c.loop-device in
    let inside : l.device-index < c.args.count = omega (arith, length-take {A = DeviceRecord}) in
    let here = ap (λ (d : DeviceRecord). d.length) (get_or-take c.args.count c.args.devices l.device-index no_device inside) in
    let longer = length_more c.args.devices l.device-index in
    (omega arith, omega arith)

pub returns : goal.returns
returns c =
    let all = length-take c.args.count c.args.devices in
    (c.loop-device.invariant.0 ∙ ap (λ (n : ℕ). length_sum c.args.devices n) (omega arith), omega arith)
