use Rattle.std.proofs.Common.{sym, ◌∙◌, arith}
use Rattle.devices.specs.laws.DeviceLaws.{none_held}
use Rattle.devices.proofs.area_held.Goals as goal

pub returns-else-held_somewhere : goal.returns-else-held_somewhere
returns-else-held_somewhere c =
    c.if-held_somewhere.false ∙ sym (none_held c.args.devices c.args.area 4 (omega arith) (sym c.held_somewhere.ensures ∙ c.if-held_somewhere.false) _)
