use Rattle.job_rows.specs.laws.JobRowLaws.{row_printed}
use Rattle.job_rows.proofs.print_job.Goals as goal

pub loop-plan-preserved : goal.loop-plan-preserved
loop-plan-preserved c =
    let a = c.args in
    let l = c.loop-plan in
    let done = c.in-Some.ensures in
    record { fits = done.fits; printed = row_printed a.plan a.area a.task a.facts l.next c.in-Some.step done l.invariant.printed c.print_row.ensures }
