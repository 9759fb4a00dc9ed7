-- The steps of a walk over records that stand one behind the other.
use Prim.Native.Nat.{ℕ, zero, suc, ◌+◌, ◌-◌, ◌*◌, ◌≤◌, ◌<◌}
use Rattle.std.specs.Prelude.{◌≡◌, true, false, List, eqb, get_or}
use Rattle.std.proofs.Math.Path.{refl}
use native.Mathlib.Omega.{arith}
use Rattle.std.specs.List.{list_any}
use Rattle.std.proofs.Common.{zero-add, sym, ap, ◌∙◌}
use Rattle.std.proofs.lemmas.List.{take_all}
use Rattle.arith.specs.InLists.{some_in_list}
use Rattle.std.proofs.Math.ListN.{length}
use borrow.Author.Tests.{leb-true, le-leb, eq-eqb, ne_eqb}
use Rattle.arith.specs.Bounded.{some, some_same}
use Rattle.arith.specs.Cases.{and_elim, by_eqb}
use Rattle.plan.specs.Records.{
  device_format,
  area_format,
  sub_area_format,
  wear_format,
  is_record,
  records_up_to,
  records_from,
  device_count_of,
  area_count_of,
  sub_area_count_of,
  areas_start_of,
  sub_areas_start_of,
  wear_start_of,
  wear_count_of,
  records_end,
  record_layout,
  device_at,
  area_at,
  sub_area_at,
  wear_at,
  endurance_by,
  no_device,
  no_area,
  no_sub_area,
  plan_of,
}
use Rattle.arith.specs.Tables.{table}
use Rattle.plan.specs.declared.scan.RecordFormat.{RecordFormat}
use Rattle.plan.specs.declared.scan.RecordLayout.{RecordLayout}

eqb_swap : (a b : ℕ) → eqb a b ≡ eqb b a
eqb_swap a b = by_eqb a b (λ q e. q ∙ sym (eq-eqb b a (sym e))) (λ q e. q ∙ sym (ne_eqb b a (λ r. e (sym r))))

-- one of three bytes
pub among_seconds : (x : ℕ) (l : List ℕ) → length l ≡ 3 → list_any (λ y. eqb y x) l ≡ some (λ i. eqb x (get_or l i 0)) 3
among_seconds x l h =
    ap (list_any (λ y. eqb y x)) (sym (take_all 3 l (omega arith)))
    ∙ some_in_list 0 l (λ y. eqb y x) 3 (omega arith)
    ∙ some_same _ _ 3 (λ i k. eqb_swap (get_or l i 0) x)

module _ (f : RecordFormat) (l : List ℕ) where
  pub record_fits : (at : ℕ) → is_record f l at ≡ true → at + f.size ≤ length l
  unfolding is_record
  record_fits at e = leb-true _ _ (and_elim _ _ e).0

  -- where the length and the first byte of the mark are right, the second byte decides
  pub record_second : (at : ℕ) → at + f.size ≤ length l → get_or l at 0 ≡ f.first →
      some (λ i. eqb (get_or l (at + 1) 0) (get_or f.seconds i 0)) 3 ≡ is_record f l at
  unfolding is_record
  record_second at h e = rw (le-leb _ _ h, eq-eqb _ _ e)

  -- one record more
  pub run_more : (n : ℕ) (at : ℕ) → n < length l → is_record f l at ≡ true →
      records_up_to (length l - n) f l at ≡ suc (records_up_to (length l - (n + 1)) f l (at + f.size))
  unfolding records_up_to
  run_more n at h e = let s : length l - n ≡ suc (length l - (n + 1)) = omega arith in rw (s, e)

  -- no record here
  pub run_end : (most : ℕ) (at : ℕ) → is_record f l at ≡ false → records_up_to most f l at ≡ 0
  unfolding records_up_to
  run_end zero at e = refl
  run_end (suc most) at e = rw e

-- four runs, each from where the last ended, are the layout
pub layout_is : (l : List ℕ) (d a s w areas subAreas wear end : ℕ) →
    d ≡ records_from device_format l 0 → areas ≡ 0 + d * 12 →
    a ≡ records_from area_format l areas → subAreas ≡ areas + a * 16 →
    s ≡ records_from sub_area_format l subAreas → wear ≡ subAreas + s * 38 →
    w ≡ records_from wear_format l wear → end ≡ wear + w * 7 →
    record {
      device_count = d;
      area_count = a;
      sub_area_count = s;
      areas_start = areas;
      sub_areas_start = subAreas;
      wear_start = wear;
      wear_count = w;
      end = end;
    }
    ≡ record_layout l
unfolding record_layout records_end wear_count_of wear_start_of sub_area_count_of sub_areas_start_of area_count_of areas_start_of device_count_of
layout_is l d a s w areas subAreas wear end hd h1 ha h2 hs h3 hw h4 = rw (h4, hw, h3, hs, h2, ha, h1, hd, zero-add)

-- what a layout says: each kind begins where the last ended
module _ (l : List ℕ) (k : RecordLayout) (e : k ≡ record_layout l) where
  pub layout_steps :
      (k.areas_start ≡ k.device_count * 12)
      × (k.sub_areas_start ≡ k.areas_start + k.area_count * 16)
      × (k.wear_start ≡ k.sub_areas_start + k.sub_area_count * 38)
      × (k.end ≡ k.wear_start + k.wear_count * 7)
  unfolding record_layout records_end wear_start_of sub_areas_start_of areas_start_of
  layout_steps = rw e (refl, refl, refl, refl)

  -- the plan by the layout
  pub plan_by_layout :
      record {
        devices = table 4 (λ i. device_at l (0 + i * 12)) no_device k.device_count;
        areas = table 8 (λ i. area_at l (k.areas_start + i * 16)) no_area k.area_count;
        sub_areas = table 32 (λ i. sub_area_at l (k.sub_areas_start + i * 38)) no_sub_area k.sub_area_count;
        device_count = k.device_count;
        area_count = k.area_count;
        sub_area_count = k.sub_area_count;
        endurance = table 32 (endurance_by (λ i. wear_at l (k.wear_start + i * 7)) k.wear_count) 0 32;
      }
      ≡ plan_of l
  unfolding record_layout plan_of
  plan_by_layout = rw e (simp zero-add)
