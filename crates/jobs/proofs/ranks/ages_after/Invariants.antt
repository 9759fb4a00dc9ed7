use mathlib.Core.Path.{◌≡◌}
use Rattle.arith.specs.Tables.{table}
use Rattle.rules.specs.Ranks.{ages_after}
use Rattle.state.specs.Ages.{age_in}
use Rattle.jobs.proofs.ranks.ages_after.Given as goal

abbrev pub invariant-loop-a : goal.invariant-loop-a
invariant-loop-a l = l.next ≡ table 8 (ages_after l.area (age_in l.ages)) 0 l.a
