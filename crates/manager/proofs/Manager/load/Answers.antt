use mathlib.Core.Path.{refl, sym, ap, ◌∙◌}
use borrow.Author.Tests.{eq-eqb}
use lib.ListN.{replicate}
use Rattle.changes.specs.laws.Changes.{refused_some}
use Rattle.manager.specs.Load.{fresh_manager}
use Rattle.manager.specs.laws.LoadLaws.{accepted_loaded, refused_loaded}
use Rattle.state.specs.Ages.{first_ages}
use Rattle.manager.proofs.Manager.load.Goals as goal

pub returns-in-Err-clause-manager_value : goal.returns-in-Err-clause-manager_value
returns-in-Err-clause-manager_value c =
    let l = c.in-Err.ensures in
    c.fresh.ensures ∙ ap (λ p. fresh_manager p (replicate 8 0)) (c.empty.ensures ∙ sym l.plan_value)
    ∙ refused_loaded _ (refused_some _ c.in-Err.refusal refl _ l.answer_value)

pub returns-in-Ok-clause-manager_value : goal.returns-in-Ok-clause-manager_value
returns-in-Ok-clause-manager_value c =
    let l = c.in-Ok.ensures in
    c.fresh-in-Ok.ensures ∙ ap (λ p. fresh_manager p first_ages) l.plan_value ∙ accepted_loaded _ (eq-eqb _ _ (sym l.answer_value))
