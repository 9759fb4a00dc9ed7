use Rattle.std.proofs.Common.{rules, ◌+◌, ◌*◌, eqb}
use Rattle.arith.specs.InLists.{any_in_range}
use Rattle.plan.specs.Records.{wear_at}
use Rattle.plan.proofs.wear.is_named.Goals as goal

pub returns : goal.returns
returns c =
    let a = c.args in
    any_in_range (λ j. eqb (wear_at a.bytes.now (a.from + j * 7)).sub_area a.sub_area) a.count c.any.ensures.ran (cc) (λ x b q k. search rules)
