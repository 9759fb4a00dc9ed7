use Rattle.std.proofs.Common.{◌≡◌, ◌≤◌, ◌*◌}
use Rattle.loops.specs.Rounds.{left_total}
use Rattle.loops.proofs.left_sum.Given as goal

abbrev pub invariant-loop-i : goal.invariant-loop-i
invariant-loop-i l = (l.sum ≡ left_total l.manager l.i) × (l.sum ≤ 8589934590 * l.i)
