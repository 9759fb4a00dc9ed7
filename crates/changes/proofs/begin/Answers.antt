use mathlib.Core.Path.{ap}
use Rattle.changes.specs.laws.Changes.{begun_refused, begun_accepted}
use Rattle.changes.proofs.begin.Goals as goal

pub returns-in-Err-clause-value : goal.returns-in-Err-clause-value
returns-in-Err-clause-value c = let a = c.args in begun_refused a.plan a.asked a.device a.ages a.task _

pub returns-in-Ok-clause-value : goal.returns-in-Ok-clause-value
returns-in-Ok-clause-value c =
    let a = c.args in
    begun_accepted a.plan a.asked a.device a.ages a.task _ _ _ _ c.begun.ensures c.in-Ok.ensures.retries_value (ap (λ z. z.waits) c.fresh.ensures) c.ages_after.ensures
