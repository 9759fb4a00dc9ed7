use Rattle.std.proofs.Common.{◌∙◌, sym}
use Rattle.machine.specs.laws.SoundCases.{devices_decide}
use Rattle.machine.proofs.soundness.is_sound.Goals as goal

pub returns-else-not-any_runs : goal.returns-else-not-any_runs
returns-else-not-any_runs c = c.devices_sound.ensures ∙ devices_decide _ _ _ (sym c.counts_fit.ensures ∙ c.if-counts_fit.true)
