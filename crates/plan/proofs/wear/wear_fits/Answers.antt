use Rattle.std.proofs.Common.{rules, ◌+◌, ◌*◌}
use Rattle.arith.specs.InLists.{all_in_range}
use Rattle.plan.specs.Records.{wear_at}
use Rattle.plan.specs.Questions.{wear_record_fits}
use Rattle.plan.proofs.wear.wear_fits.Goals as goal

pub returns : goal.returns
returns c =
    let a = c.args in
    all_in_range (wear_record_fits (λ j. wear_at a.bytes.now (a.from + j * 7)) a.sub_area_count) a.count c.all.ensures.ran (cc) (λ x b q k. search rules)
