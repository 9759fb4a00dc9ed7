-- The answer to a round by the cases that the code takes apart.
use Rattle.std.specs.Prelude.{◌≤◌, true, List, ◌≡◌}
use Rattle.std.proofs.Common.{arith}
use borrow.Author.Tests.{eq-eqb}
use Rattle.arith.specs.Cases.{by_bool}
use Rattle.machine.specs.Sound.{is_sound}
use Rattle.machine.specs.laws.SoundCases.{sound_counts}
use Rattle.manager.specs.Calls.{round_number_of, after_round}
use Rattle.manager.specs.declared.Manager.{Manager}
use Rattle.memory.specs.declared.DeviceAnswer.{DeviceAnswer}
use Rattle.rules.specs.Memory.{Memory}

module _ (m : Manager) (answers : List DeviceAnswer) (lent : Memory) (e : round_number_of m lent ≡ 0) where
  -- an accepted round is of a sound state
  round_sound : is_sound m.plan m.areas m.devices ≡ true
  unfolding round_number_of
  round_sound = by_bool (is_sound m.plan m.areas m.devices) (λ t. t) (λ f. absurd (omega (arith, rw f at e)))

  -- and leaves what can be shown
  pub round_shows : (next : Manager) → next ≡ after_round m answers lent →
      (next.plan.sub_area_count ≤ 32) × (next.plan.device_count ≤ 4)
  unfolding after_round
  round_shows next f =
      let few = sound_counts m.plan m.areas m.devices round_sound in
      rw (f, eq-eqb (round_number_of m lent) 0 e) (few.2, few.0)
