-- What acceptance of a plan means, as plain facts. Later proofs use these and never look into the questions.
use Rattle.std.specs.Prelude.{ℕ, ◌+◌, ◌≤◌, ◌<◌, ◌≡◌}
use Rattle.std.specs.Int.{◌∣◌}
use Rattle.plan.specs.Questions.{device_of, area_of, sub_area_of, device_end, window_end, length_sum, size_of, end_of, area_size}
use Rattle.plan.specs.declared.records.Granularity.{Granularity}
use Rattle.plan.specs.declared.records.Plan.{Plan}
use Rattle.plan.specs.declared.records.WearRecord.{WearRecord}

-- byte x is one of the n bytes from s on
abbrev pub Among : ℕ → ℕ → ℕ → Type 0
Among s n x = (s ≤ x) × (x < s + n)

-- a unit and a burst that is a multiple of it: sector, page or smallest read
pub record Granular (g : Granularity) : Type 0 where
  pub unit_some : 1 ≤ g.unit
  pub burst_some : 1 ≤ g.burst
  pub burst_of_unit : g.unit ∣ g.burst

pub record WellFormed (p : Plan) : Type 0 where
  pub device_some : 1 ≤ p.device_count
  pub device_most : p.device_count ≤ 4
  pub area_some : 1 ≤ p.area_count
  pub area_most : p.area_count ≤ 8
  pub sub_area_some : 1 ≤ p.sub_area_count
  pub sub_area_most : p.sub_area_count ≤ 32
  -- devices stand one behind the other from 0 on
  pub first_start : (device_of p.devices 0).start ≡ 0
  pub next_start : (i : ℕ) → i + 1 < p.device_count → (device_of p.devices (i + 1)).start ≡ device_end (device_of p.devices i)
  pub length_some : (i : ℕ) → i < p.device_count → 1 ≤ (device_of p.devices i).length
  pub poll_limit_some : (i : ℕ) → i < p.device_count → 1 ≤ (device_of p.devices i).poll_limit
  pub length_sum_lem : length_sum p.devices p.device_count ≤ 16777216
  -- windows
  pub window_end_lem : (a : ℕ) → a < p.area_count → window_end (area_of p.areas a) ≤ 65536
  pub window_apart : (a b : ℕ) → a < p.area_count → b < p.area_count → (a ≡ b → ⊥) → (x : ℕ) →
      Among (area_of p.areas a).window.start (area_of p.areas a).window.length x →
      Among (area_of p.areas b).window.start (area_of p.areas b).window.length x → ⊥
  -- units
  pub erase_granular : (i : ℕ) → i < p.sub_area_count → Granular (sub_area_of p.sub_areas i).erase
  pub write_granular : (i : ℕ) → i < p.sub_area_count → Granular (sub_area_of p.sub_areas i).write
  pub read_granular : (i : ℕ) → i < p.sub_area_count → Granular (sub_area_of p.sub_areas i).read
  pub sector_some : (i : ℕ) → i < p.sub_area_count → 1 ≤ (sub_area_of p.sub_areas i).sector_count
  pub page_in_sector : (i : ℕ) → i < p.sub_area_count → (sub_area_of p.sub_areas i).write.unit ∣ (sub_area_of p.sub_areas i).erase.unit
  pub read_in_sector : (i : ℕ) → i < p.sub_area_count → (sub_area_of p.sub_areas i).read.unit ∣ (sub_area_of p.sub_areas i).erase.unit
  -- places
  pub area_known : (i : ℕ) → i < p.sub_area_count → (sub_area_of p.sub_areas i).area < p.area_count
  pub device_known : (i : ℕ) → i < p.sub_area_count → (sub_area_of p.sub_areas i).device < p.device_count
  pub start_aligned : (i : ℕ) → i < p.sub_area_count → (sub_area_of p.sub_areas i).erase.unit ∣ (sub_area_of p.sub_areas i).start
  pub after_device_start : (i : ℕ) → i < p.sub_area_count →
      (device_of p.devices (sub_area_of p.sub_areas i).device).start ≤ (sub_area_of p.sub_areas i).start
  pub before_device_end : (i : ℕ) → i < p.sub_area_count →
      end_of (sub_area_of p.sub_areas i) ≤ device_end (device_of p.devices (sub_area_of p.sub_areas i).device)
  -- logical spaces
  pub never_falling_lem : (i j : ℕ) → i ≤ j → j < p.sub_area_count → (sub_area_of p.sub_areas i).area ≤ (sub_area_of p.sub_areas j).area
  pub has_sub_area_lem : (a : ℕ) → a < p.area_count → (i : ℕ) × (i < p.sub_area_count) × ((sub_area_of p.sub_areas i).area ≡ a)
  pub space_end : (a : ℕ) → a < p.area_count →
      (area_of p.areas a).start.0 + area_size p.sub_areas p.sub_area_count a ≤ 4294967295
  -- no byte in two sub-areas
  pub bytes_apart : (i j : ℕ) → i < p.sub_area_count → j < p.sub_area_count → (i ≡ j → ⊥) → (x : ℕ) →
      Among (sub_area_of p.sub_areas i).start (size_of (sub_area_of p.sub_areas i)) x →
      Among (sub_area_of p.sub_areas j).start (size_of (sub_area_of p.sub_areas j)) x → ⊥

-- document 02, 05: the n wear records of a plan with this many sub-areas, "at most one per sub-area"
pub record WearFormed (w : ℕ → WearRecord) (subAreas n : ℕ) : Type 0 where
  pub known : (i : ℕ) → i < n → (w i).sub_area < subAreas
  pub endurance_some : (i : ℕ) → i < n → 1 ≤ (w i).endurance
  pub once : (i j : ℕ) → i < n → j < n → (w i).sub_area ≡ (w j).sub_area → i ≡ j
