use Rattle.std.proofs.Common.{arith, sym, ◌∙◌}
use Rattle.figures.specs.laws.BoundLaws.{device_few, segment_some, segment_fits_lem, inside_image}
use Rattle.job_rows.specs.laws.JobRowLaws.{length_few, same_device, other_device, stretch_done, segment_more, segment_last}
use Rattle.job_rows.proofs.cut_step.Goals as goal

pub stretch_row-requires : goal.stretch_row-requires
stretch_row-requires c =
    let a = c.args in
    let here = c.requires.0.here in
    device_few a.plan a.area a.task here.job a.cut.at here.cut here.more c.segment_at-segment.result c.segment_at-segment.ensures

pub returns : goal.returns
returns c =
    let a = c.args in
    let r = c.requires.0 in
    let s = c.segment_at-segment.result in
    let is = c.segment_at-segment.ensures in
    let few = device_few a.plan a.area a.task r.here.job a.cut.at r.here.cut r.here.more s is in
    λ f. rw c.stretch_row.ensures (stretch_done a.plan a.area a.task f a.cut c.requires.1 r s is (other_device a.cut.last s.device few (sym c.eq.ensures ∙ c.if-eq.false)))

pub overflow_cast-next : goal.overflow_cast-next
overflow_cast-next c =
    let a = c.args in
    let here = c.requires.0.here in
    let few = length_few a.plan a.area a.task here.job in
    omega (arith, segment_fits_lem a.plan a.area a.task here.job a.cut.at here.cut here.more c.segment_at-segment.result c.segment_at-segment.ensures)

pub overflow_add-next : goal.overflow_add-next
overflow_add-next c =
    let a = c.args in
    let here = c.requires.0.here in
    let few = length_few a.plan a.area a.task here.job in
    omega (arith, segment_fits_lem a.plan a.area a.task here.job a.cut.at here.cut here.more c.segment_at-segment.result c.segment_at-segment.ensures)

pub segment_row-requires : goal.segment_row-requires
segment_row-requires c =
    let a = c.args in
    let here = c.requires.0.here in
    let s = c.segment_at-segment.result in
    let is = c.segment_at-segment.ensures in (
      device_few a.plan a.area a.task here.job a.cut.at here.cut here.more s is,
      segment_some a.plan a.area a.task here.job a.cut.at here.cut here.more s is,
      inside_image a.plan a.area a.task here.job a.cut.at here.cut here.more s is,
    )

pub returns-then-next-task : goal.returns-then-next-task
returns-then-next-task c =
    let a = c.args in
    let r = c.requires.0 in
    let s = c.segment_at-segment.result in
    let is = c.segment_at-segment.ensures in
    let few = device_few a.plan a.area a.task r.here.job a.cut.at r.here.cut r.here.more s is in
    let same = same_device a.cut.last s.device few (sym c.eq.ensures ∙ c.if-eq.true) in
    λ f. rw c.segment_row.ensures (segment_more a.plan a.area a.task f a.cut c.requires.1 r s is same c.if-next-task.true)

pub returns-else-next-task : goal.returns-else-next-task
returns-else-next-task c =
    let a = c.args in
    let r = c.requires.0 in
    let s = c.segment_at-segment.result in
    let is = c.segment_at-segment.ensures in
    let few = device_few a.plan a.area a.task r.here.job a.cut.at r.here.cut r.here.more s is in
    let same = same_device a.cut.last s.device few (sym c.eq.ensures ∙ c.if-eq.true) in
    λ f. rw c.segment_row.ensures (segment_last a.plan a.area a.task f a.cut c.requires.1 r s is same c.if-next-task.false)
