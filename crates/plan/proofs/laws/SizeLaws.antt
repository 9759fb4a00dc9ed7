-- Bounds that the loader's own arithmetic rests on.
use Prim.Native.Nat.{ℕ, zero, suc, ◌+◌, ◌≤◌, ◌<◌}
use Rattle.std.specs.Prelude.{◌≡◌, true, List}
use Rattle.std.proofs.Math.Path.{refl}
use Rattle.std.proofs.Common.{arith, add-one}
use Rattle.arith.specs.Bounded.{sum, sum_more, sum_mono}
use Rattle.arith.specs.Plain.{plain}
use Rattle.arith.specs.Cases.{by_bool}
use Rattle.plan.specs.Questions.{counts_fit, devices_join, device_joins, all_placed, is_placed, inside_device, device_of, device_end, device_due, length_sum, sub_area_of, size_of, is_of, size_in, area_size}
use Rattle.plan.specs.declared.records.DeviceRecord.{DeviceRecord}
use Rattle.plan.specs.declared.records.Plan.{Plan}
use Rattle.plan.specs.declared.records.SubAreaRecord.{SubAreaRecord}

-- question 2 as facts
pub counts : (d a s : ℕ) → counts_fit d a s ≡ true → ((1 ≤ d) × (d ≤ 4)) × (((1 ≤ a) × (a ≤ 8)) × ((1 ≤ s) × (s ≤ 32)))
unfolding counts_fit
counts d a s e = simp plain at e

-- the next device is due where this one ends
pub due_more : (l : List DeviceRecord) (i : ℕ) → device_due l (i + 1) ≡ device_end (device_of l i)
unfolding device_due
due_more l i = rw add-one

pub length_more : (l : List DeviceRecord) (i : ℕ) → length_sum l (i + 1) ≡ length_sum l i + (device_of l i).length
length_more l i = sum_more (λ k. (device_of l k).length) i

-- a record adds no more to an area than its bytes
pub size_in_few : (a : ℕ) (s : SubAreaRecord) → size_of s ≤ 16777216 → size_in a s ≤ 16777216
unfolding size_in
size_in_few a s h = by_bool (is_of a s) (λ e. rw e h) (λ e. rw e (omega arith))

pub size_more : (l : List SubAreaRecord) (a i : ℕ) → area_size l (i + 1) a ≡ area_size l i a + size_in a (sub_area_of l i)
size_more l a i = sum_more (λ k. size_in a (sub_area_of l k)) i

-- devices that join: each starts where the lengths before it add up to, and ends within the limit
module _ (l : List DeviceRecord) (n : ℕ) (e : devices_join l n ≡ true) where
  joined : ((i : ℕ) → i < n → (device_of l i).start ≡ device_due l i) × (length_sum l n ≤ 16777216)
  unfolding devices_join device_joins
  joined = let facts = simp plain at e in ((λ i h. (facts.0 i h).0), facts.1)

  due_sum : (i : ℕ) → i ≤ n → device_due l i ≡ length_sum l i
  unfolding device_due sum
  due_sum zero h = refl
  due_sum (suc i) h = rw (joined.0 i h, due_sum i (omega arith))

  pub device_end_few : (i : ℕ) → i < n → device_end (device_of l i) ≤ 16777216
  device_end_few i h = omega (arith, due_more l i, due_sum (i + 1) (omega arith), sum_mono (λ k. (device_of l k).length) (i + 1) n (omega arith), joined.1)

-- a sub-area inside a device is no larger than all devices
pub size_few : (p : Plan) → devices_join p.devices p.device_count ≡ true → all_placed p ≡ true →
    (i : ℕ) → i < p.sub_area_count → size_of (sub_area_of p.sub_areas i) ≤ 16777216
unfolding all_placed is_placed inside_device
size_few p d e i h =
    let placed = (simp plain at e) i h in
    omega (arith, placed.1.1.1.1, device_end_few p.devices p.device_count d _ placed.1.0)
