use Rattle.manager.specs.laws.CallLaws.{info_type}
use Rattle.manager.proofs.Manager.job_info.Goals as goal

pub returns : goal.returns
returns c =
    let m = c.args.self in
    let is = c.info_of.ensures.info_value m.ages m.wear in
    record { answer_value = c.info_of.ensures.answer_value m.ages m.wear; info_value = is; kind_value = info_type m _ _ is }
