use Rattle.admission.specs.DeviceLaws.{further_spans}
use mathlib.Core.Path.{◌≡◌}
use Prim.Native.Nat.{◌-◌, ◌≤◌}
use Rattle.admission.proofs.on_one_device.Given as goal

abbrev pub invariant-loop-x : goal.invariant-loop-x
invariant-loop-x l =
    (l.x ≤ l.n) × (further_spans l.plan l.area l.task l.first.device l.x ≡ further_spans l.plan l.area l.task l.first.device l.first.length)

abbrev pub decreases-loop-x : goal.decreases-loop-x
decreases-loop-x l = l.n - l.x
