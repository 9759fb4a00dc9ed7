use Rattle.std.proofs.Common.{◌∙◌, arith}
use Rattle.arith.specs.InLists.{pairs_in_list}
use Rattle.plan.specs.Records.{no_sub_area}
use Rattle.plan.specs.Questions.{sub_areas_apart}
use Rattle.plan_questions.proofs.all_apart.Goals as goal

pub returns : goal.returns
returns c = c.pairs_apart.ensures ∙ pairs_in_list no_sub_area c.args.sub_areas sub_areas_apart c.args.count (omega arith)
