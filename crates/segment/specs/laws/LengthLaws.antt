-- The length of a segment, over any unit and any burst that is a multiple of it.
use Rattle.std.specs.Prelude.{ℕ, ◌≤◌, ◌<◌, min, ◌&&◌}
use Rattle.std.specs.Int.{◌∣◌}
use Rattle.std.proofs.Math.Nat.{dvd_refl, dvd_trans, dvd-mul_right_of_dvd, one-dvd, le_of_dvd, min-eq_left, min-eq_right}
use Rattle.std.proofs.Common.{le_refl, arith}
use Rattle.std.proofs.Math.Dec.{leb}
use Rattle.arith.specs.Cases.{by_bool, by_leb}
use Rattle.arith.specs.Multiples.{multiple}
use Rattle.arith.specs.Plain.{plain}
use Rattle.memory.specs.declared.JobType.{JobType}
use Rattle.memory.specs.declared.JobType.TheVariants.{NoJob, Write, Read, Compare, Erase, BlankCheck, Lock}
use Rattle.plan.specs.Questions.{sub_area_of, size_of}
use Rattle.plan.specs.WellFormed.{WellFormed, Granular}
use Rattle.plan.specs.declared.records.Granularity.{Granularity}
use Rattle.plan.specs.declared.records.Plan.{Plan}
use Rattle.segment.specs.Segments.{unit_of, burst_or_unit, segment_length}

-- k of n bytes: at least one, at most all, and whole units
pub record WholeUnits (unit n k : ℕ) : Type 0 where
  pub some : 1 ≤ k
  pub most : k ≤ n
  pub of_unit : unit ∣ k

-- what divides two numbers divides the smaller
dvd_min : (u a b : ℕ) → u ∣ a → u ∣ b → u ∣ min a b
dvd_min u a b h k =
    by_leb a b (λ _ l. rw (min-eq_left l) h) (λ _ l. let m : b ≤ a = omega arith in rw (min-eq_right m) k)

module _ (g : Granularity) (f : Granular g) (q n : ℕ) where
  -- a burst or a unit is at least one byte, wherever it lies
  pub burst_some : 1 ≤ burst_or_unit g q n
  unfolding burst_or_unit
  burst_some = by_bool (multiple g.burst q && leb g.burst n) (λ e. rw e f.burst_some) (λ e. rw e f.unit_some)

  -- of whole units left, a burst or a unit
  pub burst_whole : 1 ≤ n → g.unit ∣ n → WholeUnits g.unit n (burst_or_unit g q n)
  unfolding burst_or_unit
  burst_whole h d =
      by_bool (multiple g.burst q && leb g.burst n)
      (λ e. rw e (record { some = f.burst_some; most = (simp plain at e).1; of_unit = f.burst_of_unit }))
      (λ e. rw e (record { some = f.unit_some; most = le_of_dvd h d; of_unit = dvd_refl _ }))

  -- the smaller of the burst and what is left
  pub read_whole : 1 ≤ n → g.unit ∣ n → WholeUnits g.unit n (min n g.burst)
  read_whole h d = record { some = omega arith; most = omega arith; of_unit = dvd_min _ n _ d f.burst_of_unit }

-- the sub-area record i of an accepted plan
module _ (p : Plan) (w : WellFormed p) (i : ℕ) (h : i < p.sub_area_count) where
  -- what holds of a burst or a unit, of reads and of all n bytes holds of a segment of every job type
  by_length : (P : ℕ → ℕ → Type 0) (q n : ℕ) → ((g : Granularity) → Granular g → P g.unit (burst_or_unit g q n)) →
      ((g : Granularity) → Granular g → P g.unit (min n g.burst)) → P 1 n →
      (k : JobType) → P (unit_of k (sub_area_of p.sub_areas i)) (segment_length k (sub_area_of p.sub_areas i) q n)
  by_length P q n burst read all Erase = burst _ (w.erase_granular i h)
  by_length P q n burst read all Write = burst _ (w.write_granular i h)
  by_length P q n burst read all Read = read _ (w.read_granular i h)
  by_length P q n burst read all Compare = read _ (w.read_granular i h)
  by_length P q n burst read all BlankCheck = read _ (w.read_granular i h)
  by_length P q n burst read all Lock = all
  by_length P q n burst read all NoJob = all

  -- a segment of a job is at least one byte, on a unit or not
  pub length_some : (k : JobType) (q n : ℕ) → 1 ≤ n → 1 ≤ segment_length k (sub_area_of p.sub_areas i) q n
  length_some k q n l = by_length (λ _ m. 1 ≤ m) q n (λ g f. burst_some g f q n) (λ g f. omega (arith, f.burst_some)) l k

  -- of whole units left, it is whole units
  pub length_whole : (k : JobType) (q n : ℕ) → 1 ≤ n → unit_of k (sub_area_of p.sub_areas i) ∣ n →
      WholeUnits (unit_of k (sub_area_of p.sub_areas i)) n (segment_length k (sub_area_of p.sub_areas i) q n)
  length_whole k q n l =
      by_length (λ u m. u ∣ n → WholeUnits u n m) q n
      (λ g f. burst_whole g f q n l)
      (λ g f. read_whole g f q n l)
      (λ d. record { some = l; most = le_refl n; of_unit = d })
      k

  -- sectors are whole units
  unit_of_sector : (k : JobType) → unit_of k (sub_area_of p.sub_areas i) ∣ (sub_area_of p.sub_areas i).erase.unit
  unit_of_sector Erase = dvd_refl _
  unit_of_sector Write = w.page_in_sector i h
  unit_of_sector Read = w.read_in_sector i h
  unit_of_sector Compare = w.read_in_sector i h
  unit_of_sector BlankCheck = w.read_in_sector i h
  unit_of_sector Lock = one-dvd _
  unit_of_sector NoJob = one-dvd _

  -- so is a sub-area's size
  pub unit_of_size : (k : JobType) → unit_of k (sub_area_of p.sub_areas i) ∣ size_of (sub_area_of p.sub_areas i)
  unit_of_size k = dvd-mul_right_of_dvd _ (unit_of_sector k) _

  -- and so is its start
  pub unit_of_start : (k : JobType) → unit_of k (sub_area_of p.sub_areas i) ∣ (sub_area_of p.sub_areas i).start
  unit_of_start k = dvd_trans _ (unit_of_sector k) (w.start_aligned i h)
