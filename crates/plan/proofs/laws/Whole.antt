-- Question 1 as plain facts: the bytes are read in one way only.
use Prim.Native.Nat.{ℕ, zero, suc, ◌+◌, ◌*◌, ◌≤◌, ◌<◌}
use Rattle.std.specs.Prelude.{◌≡◌, true, List, ◌↔◌, length, get_or}
use Rattle.std.proofs.Math.Path.{refl}
use Rattle.std.proofs.Common.{sym, ap, ◌∙◌, zero-add, arith}
use Rattle.arith.specs.Cases.{by_bool}
use Rattle.arith.specs.Plain.{plain}
use Rattle.plan.specs.Records.{
  device_format,
  area_format,
  sub_area_format,
  wear_format,
  is_record,
  records_up_to,
  records_from,
  device_count_of,
  areas_start_of,
  area_count_of,
  sub_areas_start_of,
  sub_area_count_of,
  wear_start_of,
  wear_count_of,
  records_end,
}
use Rattle.plan.specs.Questions.{whole_records}
use Rattle.plan.specs.declared.scan.RecordFormat.{RecordFormat}

-- a whole record with this mark stands at `at`
pub record Record (f : RecordFormat) (l : List ℕ) (at : ℕ) : Type 0 where
  pub inside : at + f.size ≤ length l
  pub first_mark : get_or l at 0 ≡ f.first
  pub second_mark : (i : ℕ) × (i < 3) × (get_or l (at + 1) 0 ≡ get_or f.seconds i 0)

-- "Whole records with known marks, in the order of kinds": d devices, a areas, s sub-areas, w wear records "after all others" (document 02, 05),
-- and nothing else
pub record Whole (l : List ℕ) (d a s w : ℕ) : Type 0 where
  pub bytes : length l ≡ d * 12 + a * 16 + s * 38 + w * 7
  pub devices : (i : ℕ) → i < d → Record device_format l (i * 12)
  pub areas : (i : ℕ) → i < a → Record area_format l (d * 12 + i * 16)
  pub sub_areas : (i : ℕ) → i < s → Record sub_area_format l (d * 12 + a * 16 + i * 38)
  pub wears : (i : ℕ) → i < w → Record wear_format l (d * 12 + a * 16 + s * 38 + i * 7)

-- the place of record 0
place_first : (at size : ℕ) → at + 0 * size ≡ at
place_first at size = omega arith

-- record i + 1 is record i of those behind the first
place_next : (at i size : ℕ) → at + suc i * size ≡ at + size + i * size
place_next at i size = omega arith

module _ (f : RecordFormat) (l : List ℕ) where
  -- n records stand one behind the other from `at` on
  abbrev Stand : ℕ → ℕ → Type 0
  Stand at n = (i : ℕ) → i < n → Record f l (at + i * f.size)

  -- the test for a record is the plain facts of it
  record_plain : (at : ℕ) → (is_record f l at ≡ true) ↔ Record f l at
  unfolding is_record
  record_plain at = (
    λ e. let facts = simp plain at e in record { inside = facts.0; first_mark = facts.1.0; second_mark = facts.1.1 },
    λ r. simp plain (r.inside, (r.first_mark, r.second_mark)),
  )

  -- n + 1 records are one and n behind it
  stand_more : (at n : ℕ) → Stand at (suc n) ↔ (Record f l at × Stand (at + f.size) n)
  stand_more at n =
      (λ s. (rw place_first at (s 0 (omega arith)), λ i h. rw place_next at (s (suc i) (omega arith))), λ r. join r.0 r.1)
    where
      join : Record f l at → Stand (at + f.size) n → Stand at (suc n)
      join r s zero h = rw place_first r
      join r s (suc i) h = rw place_next (s i (omega arith))

  -- the records that are counted stand there
  counted : (most at : ℕ) → Stand at (records_up_to most f l at)
  unfolding records_up_to
  counted zero at = λ i h. absurd (omega arith)
  counted (suc most) at =
      by_bool (is_record f l at)
      (λ e. rw e ((stand_more at _).1 ((record_plain at).0 e, counted most (at + f.size))))
      (λ e. rw e (λ i h. absurd (omega arith)))

  -- n records that stand there, and none behind them, are counted as n
  count : (most n at : ℕ) → n ≤ most → Stand at n → (Record f l (at + n * f.size) → ⊥) → records_up_to most f l at ≡ n
  unfolding records_up_to
  count zero zero at h s none = refl
  count zero (suc n) at h s none = absurd (omega arith)
  count (suc most) zero at h s none =
      by_bool (is_record f l at) (λ e. absurd (none (rw place_first ((record_plain at).0 e)))) (λ e. rw e)
  count (suc most) (suc n) at h s none =
      let (r, rest) = (stand_more at n).0 s in
      rw ((record_plain at).1 r) (ap suc (count most n (at + f.size) (omega arith) rest (rw place_next at none)))

-- no record of f stands where n records of another mark begin, if none stands behind them
none_before : (f g : RecordFormat) (l : List ℕ) (at n : ℕ) → (f.first ≡ g.first → ⊥) → Stand g l at n →
    (Record f l (at + n * g.size) → ⊥) → Record f l at → ⊥
none_before f g l at zero differ s none r = none (rw place_first r)
none_before f g l at (suc n) differ s none r = differ (sym r.first_mark ∙ ((stand_more g l at n).0 s).0.first_mark)

-- where each kind is counted from, by the counts of the kinds before it
module _ (l : List ℕ) where
  devices_from : device_count_of l ≡ records_up_to (length l) device_format l 0
  unfolding device_count_of records_from
  devices_from = refl

  module _ (d : ℕ) (devices : device_count_of l ≡ d) where
    areas_from : area_count_of l ≡ records_up_to (length l) area_format l (d * 12)
    unfolding area_count_of areas_start_of records_from
    areas_from = rw devices

    module _ (a : ℕ) (areas : area_count_of l ≡ a) where
      sub_areas_from : sub_area_count_of l ≡ records_up_to (length l) sub_area_format l (d * 12 + a * 16)
      unfolding sub_area_count_of sub_areas_start_of areas_start_of records_from
      sub_areas_from = rw (devices, areas)

      module _ (s : ℕ) (sub_areas : sub_area_count_of l ≡ s) where
        wears_from : wear_count_of l ≡ records_up_to (length l) wear_format l (d * 12 + a * 16 + s * 38)
        unfolding wear_count_of wear_start_of sub_areas_start_of areas_start_of records_from
        wears_from = rw (devices, areas, sub_areas)

        end_from : (w : ℕ) → wear_count_of l ≡ w → records_end l ≡ d * 12 + a * 16 + s * 38 + w * 7
        unfolding records_end wear_start_of sub_areas_start_of areas_start_of
        end_from w wears = rw (devices, areas, sub_areas, wears)

-- whole records are counted as they stand, kind by kind, to the end
module _ (l : List ℕ) (d a s w : ℕ) (whole : Whole l d a s w) where
  -- no record stands behind the last
  none_last : (f : RecordFormat) → 1 ≤ f.size → Record f l (d * 12 + a * 16 + s * 38 + w * 7) → ⊥
  none_last f h r = omega (arith, whole.bytes, r.inside)

  -- no record of another kind stands where the wear records begin, nor where the sub-areas do
  none_wear : (f : RecordFormat) → 1 ≤ f.size → (f.first ≡ wear_format.first → ⊥) → Record f l (d * 12 + a * 16 + s * 38) → ⊥
  none_wear f h differ = none_before f wear_format l (d * 12 + a * 16 + s * 38) w differ whole.wears (none_last f h)

  none_next : (f : RecordFormat) → 1 ≤ f.size → (f.first ≡ wear_format.first → ⊥) → (f.first ≡ sub_area_format.first → ⊥) →
      Record f l (d * 12 + a * 16) → ⊥
  none_next f h wear differ = none_before f sub_area_format l (d * 12 + a * 16) s differ whole.sub_areas (none_wear f h wear)

  devices_read : device_count_of l ≡ d
  devices_read =
      devices_from l
      ∙ count device_format l (length l) d 0 (omega (arith, whole.bytes)) (simp zero-add whole.devices)
      (rw zero-add
      (none_before device_format area_format l (d * 12) a (omega arith) whole.areas (none_next device_format (omega arith) (omega arith) (omega arith))))

  areas_read : area_count_of l ≡ a
  areas_read =
      areas_from l d devices_read
      ∙ count area_format l (length l) a (d * 12) (omega (arith, whole.bytes)) whole.areas (none_next area_format (omega arith) (omega arith) (omega arith))

  sub_areas_read : sub_area_count_of l ≡ s
  sub_areas_read =
      sub_areas_from l d devices_read a areas_read
      ∙ count sub_area_format l (length l) s (d * 12 + a * 16) (omega (arith, whole.bytes)) whole.sub_areas (none_wear sub_area_format (omega arith) (omega arith))

  wears_read : wear_count_of l ≡ w
  wears_read =
      wears_from l d devices_read a areas_read s sub_areas_read
      ∙ count wear_format l (length l) w (d * 12 + a * 16 + s * 38) (omega (arith, whole.bytes)) whole.wears (none_last wear_format (omega arith))

  end_read : records_end l ≡ length l
  end_read = end_from l d devices_read a areas_read s sub_areas_read w wears_read ∙ sym whole.bytes

-- question 1 and the counts say exactly what stands in the bytes: they are read in one way only
pub whole : (l : List ℕ) (d a s w : ℕ) →
    Whole l d a s w ↔ ((whole_records l ≡ true) × (device_count_of l ≡ d) × (area_count_of l ≡ a) × (sub_area_count_of l ≡ s) × (wear_count_of l ≡ w))
unfolding whole_records
whole l d a s w = (
  λ x.
      (simp plain (end_read l d a s w x), devices_read l d a s w x, areas_read l d a s w x, sub_areas_read l d a s w x, wears_read l d a s w x),
  λ (e, devices, areas, sub_areas, wears).
      record {
        bytes = sym (simp plain at e) ∙ end_from l d devices a areas s sub_areas w wears;
        devices = simp zero-add at (rw (sym (devices_from l) ∙ devices) at (counted device_format l (length l) 0));
        areas = rw (sym (areas_from l d devices) ∙ areas) at (counted area_format l (length l) (d * 12));
        sub_areas = rw (sym (sub_areas_from l d devices a areas) ∙ sub_areas) at (counted sub_area_format l (length l) (d * 12 + a * 16));
        wears = rw (sym (wears_from l d devices a areas s sub_areas) ∙ wears) at (counted wear_format l (length l) (d * 12 + a * 16 + s * 38));
      },
)
