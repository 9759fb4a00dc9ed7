use Rattle.std.proofs.Common.{◌∙◌, refl, arith}
use Rattle.admission.specs.RangeLaws.{inside_some}
use Rattle.admission.specs.DeviceLaws.{part_in, part_same, part_other, parts_end}
use Rattle.admission.proofs.on_one_device.Goals as goal

pub loop-x-init : goal.loop-x-init
loop-x-init c =
    let some = inside_some _ _ _ _ c.requires.2 in
    (omega (arith, (part_in _ _ _ _ _ c.lock_task-task.ensures c.requires.2 0 some _ c.segment_at-first.ensures).1), refl)

pub returns-then-next-first : goal.returns-then-next-first
returns-then-next-first c =
    part_other _ _ _ _ _ c.lock_task-task.ensures c.requires.2 _ c.segment_at-first.ensures _ c.loop-x.invariant.1 c.loop-x-test.true _ c.segment_at-next.ensures c.if-next-first.true

pub overflow_add-x : goal.overflow_add-x
overflow_add-x c = omega (arith, (part_in _ _ _ _ _ c.lock_task-task.ensures c.requires.2 _ c.loop-x-test.true _ c.segment_at-next.ensures).1)

pub loop-x-smaller : goal.loop-x-smaller
loop-x-smaller c =
    let part = part_in _ _ _ _ _ c.lock_task-task.ensures c.requires.2 _ c.loop-x-test.true _ c.segment_at-next.ensures in
    omega (arith, part.0, part.1)

pub loop-x-preserved : goal.loop-x-preserved
loop-x-preserved c =
    let part = part_in _ _ _ _ _ c.lock_task-task.ensures c.requires.2 _ c.loop-x-test.true _ c.segment_at-next.ensures in
    let same = part_same _ _ _ _ _ c.lock_task-task.ensures c.requires.2 _ _ c.loop-x-test.true _ c.segment_at-next.ensures c.if-next-first.false in
    (part.1, same ∙ c.loop-x.invariant.1)

pub returns : goal.returns
returns c = parts_end _ _ _ _ _ c.lock_task-task.ensures c.requires.2 _ c.segment_at-first.ensures _ c.loop-x.invariant.1 c.loop-x-test.false
