use Rattle.manager.specs.laws.CallLaws.{info_number_lem}
use Rattle.manager.proofs.Manager.query_admission.Goals as goal

pub returns : goal.returns
returns c = info_number_lem c.args.self c.args.area _ c.is_sound-sound.ensures _ c.info_admission.ensures
