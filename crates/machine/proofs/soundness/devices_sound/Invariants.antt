use Rattle.devices.specs.Arrays.{job_in, state_in}
use Rattle.machine.specs.Sound.{state_sound}
use mathlib.Core.Bool.{true}
use mathlib.Core.Path.{◌≡◌}
use Rattle.arith.specs.Bounded.{every}
use Rattle.machine.proofs.soundness.devices_sound.Given as goal

abbrev pub invariant-loop-d : goal.invariant-loop-d
invariant-loop-d l = every (λ k. state_sound l.plan k (job_in l.areas) (state_in l.devices k)) l.d ≡ true
