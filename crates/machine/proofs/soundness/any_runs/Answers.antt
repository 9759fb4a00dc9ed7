use Rattle.std.proofs.Common.{rules, ◌∙◌, arith, sym}
use Rattle.std.proofs.lemmas.List.{take_all}
use Rattle.arith.specs.InLists.{any_in_slice}
use Rattle.machine.specs.laws.Dues.{is_running}
use Rattle.state.specs.Fresh.{free_device}
use Rattle.machine.proofs.soundness.any_runs.Goals as goal

pub returns : goal.returns
returns c =
    any_in_slice free_device c.args.devices (λ device. is_running device.state) 4 (omega arith) c.any.ensures.ran (c.iter.ensures.rest ∙ sym (take_all 4 c.args.devices (omega arith))) (λ x b q k. search rules)
