use Rattle.plan_rows.specs.laws.PlanRowLaws.{size_few}
use Rattle.plan_rows.proofs.area_row.Goals as goal

pub area_size-size-requires-clause-sizes_bound : goal.area_size-size-requires-clause-sizes_bound
area_size-size-requires-clause-sizes_bound c = size_few c.args.plan c.requires.0
