use Rattle.std.proofs.Common.{rules, arith}
use Rattle.plan_rows.specs.laws.PlanRowLaws.{rank_counted}
use Rattle.plan_rows.proofs.rank_of.Goals as goal

pub returns : goal.returns
returns c = rw (rank_counted c.args.plan c.args.area (omega arith)) (search rules)
