use Rattle.std.proofs.Common.{◌≡◌, ◌≤◌}
use Rattle.arith.specs.Bounded.{sum}
use Rattle.loops.specs.Cutting.{multiple_at}
use Rattle.loops.proofs.cutting.burst_tests.Given as goal

abbrev pub invariant-loop-i : goal.invariant-loop-i
invariant-loop-i l = (l.count ≡ sum (multiple_at l.sizes l.addresses) l.i) × (l.count ≤ l.i)
