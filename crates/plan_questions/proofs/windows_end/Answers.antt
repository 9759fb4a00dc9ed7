use Rattle.std.proofs.Common.{rules, leb, arith}
use Rattle.arith.specs.InLists.{all_in_slice}
use Rattle.plan.specs.Records.{no_area}
use Rattle.plan.specs.Questions.{window_end}
use Rattle.plan_questions.proofs.windows_end.Goals as goal

pub returns : goal.returns
returns c =
    all_in_slice no_area c.args.areas (λ area. leb (window_end area) 65536) c.args.count (omega arith) c.all.ensures.ran (cc) (λ x b q k. search rules)
