use Rattle.std.proofs.Common.{rules, arith}
use Rattle.arith.specs.InLists.{any_in_slice}
use Rattle.plan.specs.Records.{no_sub_area}
use Rattle.plan.specs.Questions.{is_of}
use Rattle.plan_questions.proofs.has_sub_area.Goals as goal

pub returns : goal.returns
returns c =
    any_in_slice no_sub_area c.args.sub_areas (is_of c.args.area) c.args.count (omega arith) c.any.ensures.ran (cc) (λ x b q k. search rules)
