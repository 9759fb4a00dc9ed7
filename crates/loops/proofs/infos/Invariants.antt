use Rattle.std.proofs.Common.{◌≡◌, ◌≤◌, ◌*◌}
use Rattle.loops.specs.Repeated.{info_total}
use Rattle.loops.proofs.infos.Given as goal

abbrev pub invariant-loop-i : goal.invariant-loop-i
invariant-loop-i l = (l.sum ≡ info_total l.manager l.i) × (l.sum ≤ 4294967295 * l.i)
