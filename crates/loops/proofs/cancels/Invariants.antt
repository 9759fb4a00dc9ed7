use Rattle.std.proofs.Common.{◌≡◌, ◌≤◌, ◌*◌}
use Rattle.loops.specs.Repeated.{repeated, next_cancel, cancel_total}
use Rattle.loops.proofs.cancels.Given as goal

abbrev pub invariant-loop-i : goal.invariant-loop-i
invariant-loop-i g l =
    let first = g.O.Owner.owned l.initial.owner in
    (g.O.Owner.owned l.owner ≡ repeated next_cancel first l.i) × (l.sum ≡ cancel_total first l.i) × (l.sum ≤ 255 * l.i)
