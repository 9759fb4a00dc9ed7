use Rattle.std.proofs.Common.{◌≡◌, ◌≤◌, ◌*◌, true}
use Rattle.arith.specs.Bounded.{every}
use Rattle.plan.specs.Questions.{device_of, device_due, device_joins, length_sum}
use Rattle.plan_questions.proofs.devices_join.Given as goal

abbrev pub invariant-loop-device : goal.invariant-loop-device
invariant-loop-device l = (every (λ k. device_joins (device_due l.fn.devices k) (device_of l.fn.devices k)) l.device-index ≡ true)
    × (l.due ≡ device_due l.fn.devices l.device-index)
    × (l.sum ≡ length_sum l.fn.devices l.device-index)
    × (l.sum ≤ l.device-index * 4294967295)
