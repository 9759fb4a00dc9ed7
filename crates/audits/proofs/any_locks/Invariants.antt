use Prim.Native.Nat.{◌-◌}
use lib.ListN.{length}
use mathlib.Core.Path.{◌≡◌}
use Rattle.audits.specs.laws.TableLaws.{locks_from}
use Rattle.audits.proofs.any_locks.Given as goal

abbrev pub invariant-loop-at : goal.invariant-loop-at
invariant-loop-at l = locks_from l.manager.plan l.a l.manager.plan.device_count l.input l.at ≡ locks_from l.manager.plan l.a l.manager.plan.device_count l.input 0

abbrev pub decreases-loop-at : goal.decreases-loop-at
decreases-loop-at l = length l.input - l.at
