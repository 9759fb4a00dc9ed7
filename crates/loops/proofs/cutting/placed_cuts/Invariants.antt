use Rattle.std.proofs.Common.{◌≡◌, ◌≤◌, ◌*◌}
use Rattle.loops.specs.Repeated.{repeated}
use Rattle.loops.specs.Cutting.{next_placed_cut, placed_total}
use Rattle.loops.proofs.cutting.placed_cuts.Given as goal

abbrev pub invariant-loop-i : goal.invariant-loop-i
invariant-loop-i l =
    (l.processed ≤ l.length)
    × (l.processed ≡ repeated (next_placed_cut l.plan.sub_areas l.task) 0 l.i)
    × (l.sum ≡ placed_total l.plan.sub_areas l.task l.i)
    × (l.sum ≤ 4294967295 * l.i)
