use mathlib.Core.Path.{ap, ◌∙◌}
use Rattle.manager.specs.Calls.{manager_of}
use Rattle.manager.proofs.Manager.round.Goals as goal

pub returns : goal.returns
returns c =
    let m = c.args.self in
    let r = c.round_change-answer in
    let worn = ap (manager_of m.plan r.result.areas r.result.devices m.ages) c.add_worn.ensures in
    record { answer_value = r.ensures.answer_value m.wear; manager_value = worn ∙ r.ensures.manager_value m.wear; image_after = r.ensures.image_after m.wear; store_after = r.ensures.store_after m.wear }
