use Rattle.std.proofs.Common.{◌≡◌, rules, arith, take}
use Rattle.std.proofs.lemmas.List.{take_all}
use Rattle.arith.specs.InLists.{any_in_slice}
use Rattle.rules.specs.Machine.{holds}
use Rattle.state.specs.Fresh.{free_device}
use Rattle.devices.proofs.held_somewhere.Goals as goal

pub returns : goal.returns
returns c =
    let whole : take 4 c.args.devices ≡ c.args.devices = take_all 4 c.args.devices (omega arith) in
    any_in_slice free_device c.args.devices (λ device. holds c.args.area device) 4 (omega arith) c.any.ensures.ran (cc) (λ x b q k. search rules)
