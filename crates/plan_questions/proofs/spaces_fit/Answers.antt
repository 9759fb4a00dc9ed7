use Rattle.std.proofs.Common.{rules, ◌∙◌, take, arith}
use Rattle.std.proofs.lemmas.Iterator.{YieldsList-from_slice}
use Rattle.std.proofs.lemmas.Iterator.Consumers.{YieldsList-from_enumerate}
use Rattle.std.proofs.lemmas.Iterator.Search.{all_from_yields_List}
use Rattle.arith.specs.InLists.{every_numbered}
use Rattle.plan.specs.Records.{no_area}
use Rattle.plan.specs.Questions.{spaces_fit, space_fits}
use Rattle.plan_questions.proofs.spaces_fit.Goals as goal

pub returns-then-never_falling : goal.returns-then-never_falling
unfolding spaces_fit
returns-then-never_falling c =
    let p = c.args.plan in
    let each =
    all_from_yields_List (λ a. space_fits a.1.start.0 p.sub_areas p.sub_area_count a.0) _ _ c.all.result c.all.ensures.ran
    (YieldsList-from_enumerate (YieldsList-from_slice (take p.area_count p.areas) (cc)) (cc))
    (λ x b q k. search rules)
    ∙ every_numbered no_area p.areas _ p.area_count (omega arith) in
    simp (c.if-never_falling.true, ← c.never_falling.ensures) each

pub returns-else-never_falling : goal.returns-else-never_falling
unfolding spaces_fit
returns-else-never_falling c = simp (c.if-never_falling.false, ← c.never_falling.ensures)
