use Rattle.std.proofs.Common.{rules, arith}
use Rattle.arith.specs.InLists.{all_in_slice}
use Rattle.plan.specs.Records.{no_sub_area}
use Rattle.plan.specs.Questions.{sizes_fit}
use Rattle.plan_questions.proofs.all_sizes_fit.Goals as goal

pub returns : goal.returns
returns c = all_in_slice no_sub_area c.args.sub_areas sizes_fit c.args.count (omega arith) c.all.ensures.ran (cc) (λ x b q k. search rules)
