use Rattle.queries.specs.laws.QueryLaws.{memory_place}
use Rattle.queries.proofs.memory_info.Goals as goal

pub memory_in-requires : goal.memory_in-requires
memory_in-requires c = (memory_place _ _ c.args.address _ c.map_address.ensures _ c.in-Some.is).1
