use Rattle.picks.specs.laws.Picks.{best_to, ready_in}
use mathlib.Core.Path.{◌≡◌}
use Rattle.picks.proofs.best_area.Given as goal

abbrev pub invariant-loop-a : goal.invariant-loop-a
invariant-loop-a l = l.best ≡ best_to l.records l.ages (ready_in l.needs l.areas l.device) l.a
