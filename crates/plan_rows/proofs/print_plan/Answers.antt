use Rattle.std.proofs.Common.{rules}
use Rattle.rows.specs.laws.WrittenLaws.{part_none, part_more}
use Rattle.plan_rows.specs.laws.PlanRowLaws.{place_next}
use Rattle.plan_rows.proofs.print_plan.Goals as goal

pub loop-next-init : goal.loop-next-init
loop-next-init c = part_none _ _

pub loop-next-preserved : goal.loop-next-preserved
loop-next-preserved c = part_more _ (place_next c.args.plan 300 c.loop-next.next (search rules)) c.loop-next.invariant c.print_place.ensures
