use Rattle.std.proofs.Common.{◌≡◌, ◌<◌, ◌∙◌, refl, sym, ap, ap₂, true, false, arith, get_or-take, length-take}
use Rattle.arith.specs.Bounded.{every, every_fails, every_more, sum}
use Rattle.plan.specs.Records.{no_device}
use Rattle.plan.specs.Questions.{device_of, device_due, device_joins, device_end, devices_join}
use Rattle.plan.specs.declared.records.DeviceRecord.{DeviceRecord}
use Rattle.plan.proofs.laws.SizeLaws.{due_more, length_more}
use Rattle.plan_questions.proofs.devices_join.Goals as goal

pub loop-device-init : goal.loop-device-init
unfolding every device_due sum
loop-device-init c = (refl, refl, refl, omega arith)

pub returns-then-not-joins : goal.returns-then-not-joins
unfolding devices_join
returns-then-not-joins c =
    let l = c.loop-device in
    let d = c.args.devices in
    let inside : l.device-index < c.args.count = omega (arith, length-take {A = DeviceRecord}) in
    let here = get_or-take c.args.count d l.device-index no_device inside in
    let e : device_joins (device_due d l.device-index) (device_of d l.device-index) ≡ false =
    ap₂ device_joins (sym l.invariant.1) (sym here) ∙ sym c.joins.ensures ∙ c.if-not-joins.true in
    rw (every_fails (λ k. device_joins (device_due d k) (device_of d k)) c.args.count l.device-index inside e)

pub loop-device-preserved : goal.loop-device-preserved
loop-device-preserved c =
    let l = c.loop-device in
    let d = c.args.devices in
    let inside : l.device-index < c.args.count = omega (arith, length-take {A = DeviceRecord}) in
    let here = get_or-take c.args.count d l.device-index no_device inside in
    let e : device_joins (device_due d l.device-index) (device_of d l.device-index) ≡ true =
    ap₂ device_joins (sym l.invariant.1) (sym here) ∙ sym c.joins.ensures ∙ c.if-not-joins.false in
    let long = ap (λ (x : DeviceRecord). x.length) here in
    let longer = length_more d l.device-index in (
      every_more _ _ l.invariant.0 e,
      c.end-due.ensures ∙ ap device_end here ∙ sym (due_more d l.device-index),
      omega arith,
      omega arith,
    )

pub returns : goal.returns
unfolding devices_join
returns c =
    let l = c.loop-device in
    let all : l.device-index ≡ c.args.count = omega (arith, length-take {A = DeviceRecord}) in
    rw (← all, l.invariant.0, ← l.invariant.2)
