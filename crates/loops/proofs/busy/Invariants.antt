use Rattle.std.proofs.Common.{◌≡◌}
use Rattle.loops.specs.Repeated.{repeated, next_job}
use Rattle.loops.proofs.busy.Given as goal

abbrev pub invariant-loop-area : goal.invariant-loop-area
invariant-loop-area l = l.owner.manager ≡ repeated (next_job l.kind l.length) l.initial.owner.manager l.area
