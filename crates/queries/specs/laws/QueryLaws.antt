-- What the queries give, by the cases that the code takes apart.
use Rattle.std.specs.Prelude.{ℕ, ◌≤◌, ◌<◌, Bool, true, false, ◌||◌, List, Some, None, ◌≡◌, refl, length, get_or}
use Rattle.std.specs.declared.option.Option.{Option}
use Rattle.std.proofs.Common.{sym, ◌∙◌, arith}
use Rattle.std.proofs.Math.Path.{ap}
use Rattle.arith.specs.Bounded.{some}
use Rattle.devices.specs.Arrays.{device_in, state_in}
use Rattle.devices.specs.laws.DeviceLaws.{none_held}
use Rattle.memory.specs.declared.LogicalAddress.{LogicalAddress}
use Rattle.plan.specs.Questions.{sub_area_of, size_of}
use Rattle.plan.specs.declared.records.Plan.{Plan}
use Rattle.rules.specs.Layout.{layout_of}
use Rattle.rules.specs.Machine.{due, need, runs_for, kept_for, holds}
use Rattle.rules.specs.Wear.{no_wear_info, wear_info_at, wear_info_of}
use Rattle.wear.specs.Wear.{charge_of}
use Rattle.rules.specs.Queries.{no_request, request_on, no_memory_info, memory_info_in, memory_info_at, memory_info_of}
use Rattle.segment.specs.Mapping.{mapped}
use Rattle.segment.specs.Segments.{segment_at}
use Rattle.segment.specs.laws.MappingLaws.{mapped_place}
use Rattle.segment.specs.declared.FoundByte.{FoundByte}
use Rattle.segment.specs.declared.Segment.{Segment}
use Rattle.state.specs.declared.Device.{Device}
use Rattle.state.specs.declared.DeviceState.{DeviceState}
use Rattle.state.specs.declared.DeviceState.TheVariants.{Free, Runs, LockedFor}
use Rattle.state.specs.declared.Job.{Job}

first_false : (s t : Bool) → (s || t) ≡ false → s ≡ false
first_false true t e = e
first_false false t e = refl

-- where no device holds a request of area a it has none running
module _ (devices : List Device) (a n : ℕ) (long : length devices ≡ n) (none : some (λ d. holds a (device_in devices d)) n ≡ false) where
  pub none_request : (s : Segment) (d : ℕ) → no_request ≡ request_on a s (state_in devices d)
  none_request s d = no_run (state_in devices d) (first_false (runs_for a (state_in devices d)) (kept_for a (device_in devices d).suspended) (none_held devices a n long none d))
    where
      no_run : (x : DeviceState) → runs_for a x ≡ false → no_request ≡ request_on a s x
      no_run Free e = refl
      no_run (LockedFor b) e = refl
      no_run (Runs b polls) e = rw e

-- the segment s that is due of job j, on the device that it lies on
module _ (p : Plan) (j : Job) (devices : List Device) (a : ℕ) (s : Segment) (is : s ≡ segment_at p a j.task j.processed) where
  pub request_of_lem : (x : DeviceState) → x ≡ state_in devices s.device →
      request_on a s x ≡ request_on a (due (layout_of p) a j) (state_in devices (need (layout_of p) a j))
  unfolding layout_of
  request_of_lem x here = ap (request_on a s) here ∙ ap (λ t. request_on a t (state_in devices t.device)) is

-- the record of the byte that the mapping gave is one that a plan has room for
pub found_few : (p : Plan) → p.sub_area_count ≤ 32 → (a : ℕ) (address : LogicalAddress) (f : Option FoundByte) → f ≡ mapped p a address →
    (byte : FoundByte) → f ≡ Some byte → byte.sub_area < 32
found_few p few a address f e byte here = let place = (mapped_place p a address.0 byte (sym e ∙ here)).0 in omega (arith, place.known, few)

-- memory info, with what the mapping gave
module _ (p : Plan) (a : ℕ) (address : LogicalAddress) (f : Option FoundByte) (e : f ≡ mapped p a (record { 0 = address.0 })) where
  pub memory_outside : f ≡ None → no_memory_info ≡ memory_info_of p a address
  unfolding memory_info_of
  memory_outside none = ap (memory_info_at p address) (sym none ∙ e)

  module _ (byte : FoundByte) (here : f ≡ Some byte) where
    pub memory_inside : memory_info_in address (sub_area_of p.sub_areas byte.sub_area) byte.offset ≡ memory_info_of p a address
    unfolding memory_info_of
    memory_inside = ap (memory_info_at p address) (sym here ∙ e)

    -- the offset is one of the sub-area, and no larger than the address
    pub memory_place : (byte.sub_area < p.sub_area_count) × ((byte.offset ≤ address.0) × (byte.offset < size_of (sub_area_of p.sub_areas byte.sub_area)))
    memory_place =
        let place = (mapped_place p a address.0 byte (sym e ∙ here)).0 in
        (place.known, (omega (arith, place.is_at), place.inside))

-- wear info, with what the mapping gave
module _ (p : Plan) (sums : ℕ → ℕ) (a : ℕ) (address : LogicalAddress) (f : Option FoundByte) (e : f ≡ mapped p a (record { 0 = address.0 })) where
  pub wear_outside : f ≡ None → no_wear_info ≡ wear_info_of p sums a address
  unfolding wear_info_of
  wear_outside none = ap (wear_info_at p sums) (sym none ∙ e)

  pub wear_inside : (byte : FoundByte) → f ≡ Some byte → (charge : ℕ) →
      charge ≡ charge_of (sums byte.sub_area) (get_or p.endurance byte.sub_area 0) (sub_area_of p.sub_areas byte.sub_area).sector_count →
      record { sum = sums byte.sub_area; charge = charge } ≡ wear_info_of p sums a address
  unfolding wear_info_of
  wear_inside byte here charge is = ap (λ c. record { sum = sums byte.sub_area; charge = c }) is ∙ ap (wear_info_at p sums) (sym here ∙ e)
