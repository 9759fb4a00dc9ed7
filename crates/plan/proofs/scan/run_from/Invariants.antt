use Prim.Native.Nat.{◌+◌, ◌-◌, ◌*◌, ◌≤◌}
use mathlib.Core.Path.{◌≡◌}
use lib.ListN.{length}
use Rattle.plan.specs.Records.{records_up_to, records_from}
use Rattle.plan.proofs.scan.run_from.Given as goal

abbrev pub invariant-loop-format : goal.invariant-loop-format
invariant-loop-format l = (l.end ≤ length l.bytes)
    × (l.count ≤ l.end)
    × (l.end ≡ l.from + l.count * l.format.size)
    × (l.count + records_up_to (length l.bytes - l.count) l.format l.bytes l.end ≡ records_from l.format l.bytes l.from)

abbrev pub decreases-loop-format : goal.decreases-loop-format
decreases-loop-format l = length l.bytes - l.end
