use Rattle.std.proofs.Common.{◌-◌}
use Rattle.rows.specs.Rows.{rows_text}
use Rattle.rows.specs.Written.{PrintsPart}
use Rattle.plan_rows.specs.PlanRows.{plan_rows_from}
use Rattle.plan_rows.proofs.print_plan.Given as goal

abbrev pub invariant-loop-next : goal.invariant-loop-next
invariant-loop-next l = PrintsPart l.initial.page l.page (rows_text (plan_rows_from l.plan (300 - l.k) l.k)) (rows_text (plan_rows_from l.plan (300 - l.next) l.next))
