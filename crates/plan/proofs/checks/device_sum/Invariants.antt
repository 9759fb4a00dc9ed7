use Rattle.std.proofs.Common.{◌≡◌, ◌≤◌, ◌*◌}
use Rattle.plan.specs.Questions.{length_sum}
use Rattle.plan.proofs.checks.device_sum.Given as goal

abbrev pub invariant-loop-device : goal.invariant-loop-device
invariant-loop-device l = (l.sum ≡ length_sum l.fn.devices l.device-index) × (l.sum ≤ l.device-index * 4294967295)
