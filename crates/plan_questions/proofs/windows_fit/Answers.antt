use Rattle.std.proofs.Common.{◌∙◌, arith}
use Rattle.arith.specs.InLists.{pairs_in_list}
use Rattle.plan.specs.Records.{no_area}
use Rattle.plan.specs.Questions.{windows_apart, windows_fit}
use Rattle.plan_questions.proofs.windows_fit.Goals as goal

pub returns-then-windows_end : goal.returns-then-windows_end
unfolding windows_fit
returns-then-windows_end c =
    simp (← c.windows_end.ensures, c.if-windows_end.true)
    (c.pairs_apart.ensures ∙ pairs_in_list no_area c.args.areas windows_apart c.args.count (omega arith))

pub returns-else-windows_end : goal.returns-else-windows_end
unfolding windows_fit
returns-else-windows_end c = simp (c.if-windows_end.false, ← c.windows_end.ensures)
