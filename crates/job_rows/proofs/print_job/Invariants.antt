use Rattle.std.proofs.Common.{length}
use Rattle.job_rows.specs.Cursors.{rows_left, Fits}
use Rattle.rows.specs.Rows.{rows_text}
use Rattle.rows.specs.Written.{PrintsPart}
use Rattle.job_rows.proofs.print_job.Given as goal

abbrev pub invariant-loop-plan : goal.invariant-loop-plan
invariant-loop-plan l = record {
  fits : Fits l.plan l.area l.task l.facts l.next;
  printed : PrintsPart l.initial.page l.page (rows_text (rows_left l.plan l.area l.task l.facts l.initial.next)) (rows_text (rows_left l.plan l.area l.task l.facts l.next));
}

abbrev pub decreases-loop-plan : goal.decreases-loop-plan
decreases-loop-plan l = length (rows_left l.plan l.area l.task l.facts l.next)
