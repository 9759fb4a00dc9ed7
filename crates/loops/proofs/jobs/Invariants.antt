use Rattle.std.proofs.Common.{◌≡◌, ◌≤◌, ◌*◌}
use Rattle.loops.specs.Repeated.{repeated, next_job, job_total}
use Rattle.loops.proofs.jobs.Given as goal

abbrev pub invariant-loop-i : goal.invariant-loop-i
invariant-loop-i g l =
    let first = g.O.Owner.owned l.initial.owner in
    (g.O.Owner.owned l.owner ≡ repeated (next_job l.kind l.length) first l.i)
    × (l.sum ≡ job_total l.kind l.length first l.i)
    × (l.sum ≤ 255 * l.i)
