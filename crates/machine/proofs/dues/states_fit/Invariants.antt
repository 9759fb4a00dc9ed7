use Rattle.machine.specs.laws.Dues.{fits_in}
use mathlib.Core.Bool.{true}
use mathlib.Core.Path.{◌≡◌}
use Rattle.arith.specs.Bounded.{every}
use Rattle.machine.proofs.dues.states_fit.Given as goal

abbrev pub invariant-loop-d : goal.invariant-loop-d
invariant-loop-d l = every (fits_in l.device_records l.device_count l.area_records l.area_count l.areas l.devices l.dues) l.d ≡ true
