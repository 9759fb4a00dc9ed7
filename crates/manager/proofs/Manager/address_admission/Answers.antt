use Rattle.std.proofs.Common.{sym, ◌∙◌}
use Rattle.machine.specs.laws.SoundCases.{sound_few}
use Rattle.manager.specs.laws.CallLaws.{memory_number_lem}
use Rattle.manager.proofs.Manager.address_admission.Goals as goal

pub memory_admission-requires : goal.memory_admission-requires
memory_admission-requires c = λ e. sound_few _ _ _ (sym c.is_sound-sound.ensures ∙ e)

pub returns : goal.returns
returns c = memory_number_lem c.args.self c.args.area _ c.is_sound-sound.ensures _ c.args.address c.memory_admission.ensures
