use Rattle.std.proofs.Common.{sym, ◌∙◌}
use Rattle.job_rows.specs.laws.JobRowLaws.{image_more, image_last}
use Rattle.job_rows.proofs.image_step.Goals as goal

pub returns-then-found-task : goal.returns-then-found-task
returns-then-found-task c =
    let a = c.args in
    let n = c.next_range-found.ensures in
    λ f. rw c.image_row.ensures (image_more a.plan a.area a.task f a.x _ _ (sym c.is_lock.ensures ∙ c.if-is_lock.false) n.x_value (record { job = c.requires.job; cut = n.cut.0; more = c.if-found-task.true }))

pub returns-else-found-task : goal.returns-else-found-task
returns-else-found-task c =
    let a = c.args in
    let n = c.next_range-found.ensures in
    λ f. rw c.image_row.ensures (image_last a.plan a.area a.task f a.x _ _ (sym c.is_lock.ensures ∙ c.if-is_lock.false) n.x_value c.requires.job c.if-found-task.false)
