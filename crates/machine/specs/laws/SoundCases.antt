-- The soundness test by the cases that the code takes apart, and what a sound state says.
use Rattle.std.specs.Prelude.{◌≤◌, true, false, List, ◌≡◌}
use Rattle.arith.specs.Bounded.{every}
use Rattle.arith.specs.Plain.{and_plain}
use Rattle.plan.specs.Questions.{counts_fit}
use Rattle.plan.proofs.laws.SizeLaws.{counts}
use Rattle.plan.specs.declared.records.Plan.{Plan}
use Rattle.state.specs.declared.Area.{Area}
use Rattle.state.specs.declared.Device.{Device}
use Rattle.devices.specs.Arrays.{job_in, state_in}
use Rattle.machine.specs.Sound.{state_sound, is_sound}

module _ (p : Plan) (areas : List Area) (devices : List Device) where
  pub other_counts : counts_fit p.device_count p.area_count p.sub_area_count ≡ false → false ≡ is_sound p areas devices
  unfolding is_sound
  other_counts e = rw e

  pub devices_decide : counts_fit p.device_count p.area_count p.sub_area_count ≡ true →
      every (λ d. state_sound p d (job_in areas) (state_in devices d)) p.device_count ≡ is_sound p areas devices
  unfolding is_sound
  devices_decide e = rw e

-- the counts of a sound state are in the bounds of the arrays
pub counts_few : (p : Plan) → counts_fit p.device_count p.area_count p.sub_area_count ≡ true →
    (p.device_count ≤ 4) × (p.area_count ≤ 8) × (p.sub_area_count ≤ 32)
counts_few p e = let few = counts _ _ _ e in (few.0.1, few.1.0.1, few.1.1.1)

pub sound_counts : (p : Plan) (areas : List Area) (devices : List Device) → is_sound p areas devices ≡ true →
    (p.device_count ≤ 4) × (p.area_count ≤ 8) × (p.sub_area_count ≤ 32)
unfolding is_sound
sound_counts p areas devices e = counts_few p (simp and_plain at e).0

-- without the devices
pub sound_few : (p : Plan) (areas : List Area) (devices : List Device) → is_sound p areas devices ≡ true → (p.area_count ≤ 8) × (p.sub_area_count ≤ 32)
sound_few p areas devices e = let few = sound_counts p areas devices e in (few.1, few.2)
