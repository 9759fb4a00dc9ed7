use Rattle.std.proofs.Common.{◌≡◌, ◌≤◌, ◌*◌}
use Rattle.loops.specs.Repeated.{repeated, next_pair, pair_total}
use Rattle.loops.proofs.jobs_and_cancels.Given as goal

abbrev pub invariant-loop-i : goal.invariant-loop-i
invariant-loop-i g l =
    let first = g.O.Owner.owned l.initial.owner in
    (g.O.Owner.owned l.owner ≡ repeated (next_pair l.kind l.length) first l.i)
    × (l.sum ≡ pair_total l.kind l.length first l.i)
    × (l.sum ≤ 510 * l.i)
