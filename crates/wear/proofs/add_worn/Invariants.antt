use mathlib.Core.Path.{◌≡◌}
use Rattle.wear.specs.Wear.{add_worn}
use Rattle.wear.proofs.add_worn.Given as goal

abbrev pub invariant-loop-one : goal.invariant-loop-one
invariant-loop-one l = l.wear ≡ add_worn l.fn.worn l.one-index l.initial.wear
