use Rattle.std.proofs.Common.{rules, arith}
use Rattle.arith.specs.InLists.{all_in_slice}
use Rattle.plan.specs.Records.{no_sub_area}
use Rattle.plan.specs.Questions.{is_placed, all_placed}
use Rattle.plan_questions.proofs.places_fit.Goals as goal

pub returns : goal.returns
unfolding all_placed
returns c =
    let p = c.args.plan in
    all_in_slice no_sub_area p.sub_areas (is_placed p.devices p.device_count p.area_count) p.sub_area_count (omega arith)
    c.all.ensures.ran (cc) (λ x b q k. search rules)
