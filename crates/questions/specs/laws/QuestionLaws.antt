-- The questions of the calls by the cases that the code takes apart.
use Rattle.std.specs.Prelude.{ℕ, true, false, List, ◌≡◌, eqb, length}
use Rattle.arith.specs.Cases.{pick}
use Rattle.arith.specs.FirstNo.{first_no}
use Rattle.plan.specs.Questions.{length_sum}
use Rattle.plan.specs.declared.records.Plan.{Plan}
use Rattle.rules.specs.Admission.{image_fits, store_reaches, round_number}
use Rattle.rules.specs.Machine.{Core}
use Rattle.state.specs.Fresh.{no_job}
use Rattle.state.specs.declared.Area.{Area}
use Rattle.state.specs.declared.Device.{Device}
use Rattle.devices.specs.Arrays.{device_in}
use Rattle.machine.specs.Sound.{is_sound}

-- the devices alone: a release is asked nothing of the jobs
abbrev pub devices_alone : List Device → Core
devices_alone devices = record { jobs = λ _. no_job; devices = device_in devices }

-- question 18, with the sum of the lengths
pub image_fits_lem : (p : Plan) (image : List ℕ) (s : ℕ) → s ≡ length_sum p.devices p.device_count → eqb (length image) s ≡ image_fits p image
unfolding image_fits
image_fits_lem p image s e = rw e

-- a round
module _ (p : Plan) (areas : List Area) (devices : List Device) (image store : List ℕ) where
  pub round_unsound : is_sound p areas devices ≡ false → 9 ≡ pick (is_sound p areas devices) (round_number p image store) 9
  round_unsound e = rw e

  module _ (sound : is_sound p areas devices ≡ true) where
    pub round_image : image_fits p image ≡ false → 18 ≡ pick (is_sound p areas devices) (round_number p image store) 9
    unfolding first_no round_number
    round_image e = rw (sound, e)

    pub round_store : image_fits p image ≡ true → store_reaches p store ≡ false → 19 ≡ pick (is_sound p areas devices) (round_number p image store) 9
    unfolding first_no round_number
    round_store e f = rw (sound, e, f)

    pub round_accepted : image_fits p image ≡ true → store_reaches p store ≡ true → 0 ≡ pick (is_sound p areas devices) (round_number p image store) 9
    unfolding first_no round_number
    round_accepted e f = rw (sound, e, f)
