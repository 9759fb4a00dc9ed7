-- The numbers of refusals.
use Rattle.std.specs.Prelude.{◌<◌}
use Rattle.std.proofs.Common.{arith}
use Rattle.memory.specs.declared.Refusal.{Refusal}
use Rattle.memory.specs.declared.Refusal.TheVariants as Refusals
use Rattle.memory.specs.Numbers.{refusal_number}

-- no refusal has the number of acceptance
pub refusal_some : (q : Refusal) → 0 < refusal_number q
refusal_some Refusals.Records = omega arith
refusal_some Refusals.Counts = omega arith
refusal_some Refusals.Devices = omega arith
refusal_some Refusals.Windows = omega arith
refusal_some Refusals.Sizes = omega arith
refusal_some Refusals.Placement = omega arith
refusal_some Refusals.AreaSpaces = omega arith
refusal_some Refusals.SharedBytes = omega arith
refusal_some Refusals.Unsound = omega arith
refusal_some Refusals.UnknownArea = omega arith
refusal_some Refusals.Busy = omega arith
refusal_some Refusals.Range = omega arith
refusal_some Refusals.Alignment = omega arith
refusal_some Refusals.WindowLength = omega arith
refusal_some Refusals.SeveralDevices = omega arith
refusal_some Refusals.NotHolder = omega arith
refusal_some Refusals.NotPending = omega arith
refusal_some Refusals.ImageLength = omega arith
refusal_some Refusals.StoreLength = omega arith
refusal_some Refusals.Wear = omega arith
