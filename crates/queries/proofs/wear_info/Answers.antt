use Rattle.queries.specs.laws.QueryLaws.{wear_inside}
use Rattle.queries.proofs.wear_info.Goals as goal

pub returns-in-Some : goal.returns-in-Some
returns-in-Some c = wear_inside _ _ _ c.args.address _ c.map_address.ensures _ c.in-Some.is _ c.charge_of-charge.ensures
