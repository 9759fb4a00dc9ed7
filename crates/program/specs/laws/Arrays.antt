-- The manager's arrays when a round closes, as the maps that the rules see.
use Rattle.std.specs.Prelude.{ℕ, ◌≤◌, ◌<◌, List, ◌≡◌, length}
use Rattle.std.proofs.Math.Path.{sym, ap, fun_ext}
use Rattle.std.proofs.Common.{◌∙◌, arith}
use borrow.Author.Tests.{le-ltb, ne_eqb}
use Rattle.arith.specs.Cases.{by_ltb}
use Rattle.arith.specs.Tables.{table, length_table, table_at}
use Rattle.devices.specs.laws.ArrayLaws.{job_past, device_past}
use Rattle.devices.specs.Arrays.{job_in, device_in, core_in}
use Rattle.close.specs.Close.{closed, waits_in, area_after, areas_after, devices_after}
use Rattle.rules.specs.Layout.{Layout}
use Rattle.rules.specs.Machine.{Core, is_pending, wait_of}
use Rattle.rules.proofs.laws.RankLaws.{AgesApart}
use Rattle.rules.specs.Ranks.{ages_after}
use Rattle.state.specs.Ages.{age_in}
use Rattle.state.specs.laws.AgesLaws.{age_at, age_past}
use Rattle.state.specs.Fresh.{no_job, fresh_area, free_device}
use Rattle.state.specs.declared.Area.{Area}

-- the arrays when a round closes
module _ (p : Layout) (before : List Area) (after : Core) where
  pub areas_after_length : length (areas_after p before after) ≡ 8
  unfolding areas_after
  areas_after_length = length_table 8 (area_after p before after) fresh_area 8

  pub devices_after_length : length (devices_after after) ≡ 4
  unfolding devices_after
  devices_after_length = length_table 4 after.devices free_device 4

  pub waits_after : (a : ℕ) → a < 8 →
      waits_in (areas_after p before after) a
      ≡ closed (is_pending (job_in before a)) (is_pending (after.jobs a)) (wait_of p after a) (waits_in before a)
  unfolding areas_after
  waits_after a h = ap (λ x. x.waits) (table_at 8 (area_after p before after) fresh_area 8 a fresh_area h (omega arith))

  -- they hold all of a core that has nothing past them
  pub core_after : ((a : ℕ) → 8 ≤ a → after.jobs a ≡ no_job) → ((d : ℕ) → 4 ≤ d → after.devices d ≡ free_device) →
      core_in (areas_after p before after) (devices_after after) ≡ after
  unfolding areas_after devices_after
  core_after idle free = λ i. record { jobs = λ a. job a i; devices = λ d. device d i }
    where
      job : (a : ℕ) → job_in (areas_after p before after) a ≡ after.jobs a
      job a =
          by_ltb a 8
          (λ _ h. ap (λ x. x.job) (table_at 8 (area_after p before after) fresh_area 8 a fresh_area h (omega arith)))
          (λ _ h. job_past (areas_after p before after) a (omega (arith, areas_after_length)) ∙ sym (idle a h))

      device : (d : ℕ) → device_in (devices_after after) d ≡ after.devices d
      device d =
          by_ltb d 4
          (λ _ h. table_at 4 after.devices free_device 4 d free_device h (omega arith))
          (λ _ h. device_past (devices_after after) d (omega (arith, devices_after_length)) ∙ sym (free d h))

-- the ages after an acceptance hold all that the rules say of them
module _ (l : List ℕ) (apart : AgesApart (age_in l)) (a : ℕ) (known : a < 8) where
  age_few : age_in l a < 8
  age_few =
      by_ltb (age_in l a) 8 (λ _ h. h)
      (λ _ h. absurd (let e = apart (age_in l a) a (sym (age_past l (age_in l a) h)) in omega arith))

  age_kept : (b : ℕ) → 8 ≤ b → ages_after a (age_in l) b ≡ b
  unfolding ages_after
  age_kept b h =
      let few = age_few in
      rw (ne_eqb b a (λ e. omega arith), ← age_past l b h, le-ltb b (age_in l a) (omega arith))

  pub ages_set : age_in (table 8 (ages_after a (age_in l)) 0 8) ≡ ages_after a (age_in l)
  ages_set =
      fun_ext λ b.
      by_ltb b 8
      (λ _ h. sym (age_at (table 8 (ages_after a (age_in l)) 0 8) b h) ∙ table_at 8 (ages_after a (age_in l)) 0 8 b 0 h (omega arith))
      (λ _ h. sym (age_past (table 8 (ages_after a (age_in l)) 0 8) b h) ∙ sym (age_kept b h))
