use Rattle.std.proofs.Common.{◌≡◌, ◌≤◌, ◌*◌}
use Rattle.loops.specs.Repeated.{repeated}
use Rattle.loops.specs.Cutting.{next_cut, cut_total}
use Rattle.loops.proofs.cutting.cuts.Given as goal

abbrev pub invariant-loop-turn : goal.invariant-loop-turn
invariant-loop-turn l =
    (l.processed ≤ l.length)
    × (l.processed ≡ repeated (next_cut l.manager.plan l.task) 0 l._turn)
    × (l.sum ≡ cut_total l.manager.plan l.task l._turn)
    × (l.sum ≤ 4294967295 * l._turn)
