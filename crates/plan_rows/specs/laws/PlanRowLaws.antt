-- The rows of a plan, one place at a time.
use Prim.Native.Nat.{ℕ, zero, suc, ◌+◌, ◌-◌, ◌≤◌, ◌<◌}
use Rattle.std.specs.Prelude.{[], ◌∷◌, ◌++◌, ◌≡◌, ltb}
use native.Mathlib.Omega.{arith}
use Rattle.std.specs.List.{count_by}
use Rattle.std.proofs.lemmas.List.Sums.{count_by_more_yes, count_by_more_no}
use Rattle.std.proofs.Common.{Bool, length, take, add-one, List, refl, sym, ap, ◌∙◌, append-nil, append_assoc, lt-ltb, le-ltb}
use Rattle.arith.specs.Bounded.{sum}
use Rattle.arith.specs.Cases.{pick, by_bool}
use Rattle.plan.specs.Questions.{area_of, sub_area_of, size_of}
use Rattle.plan.specs.Records.{no_area}
use Rattle.plan.specs.declared.records.AreaRecord.{AreaRecord}
use Rattle.plan.specs.WellFormed.{WellFormed}
use Rattle.plan.specs.declared.records.Plan.{Plan}
use Rattle.rules.specs.Layout.{priority_of}
use Rattle.rules.proofs.laws.Requests.{device_end_lem}
use Rattle.rules.specs.statements.JobSets.{is_on}
use Rattle.rows.specs.Rows.{row_text, rows_text}
use Rattle.rows.specs.declared.Row.{Row}
use Rattle.plan_rows.specs.PlanRows.{rank_of, area_row, on_row, if_so, area_place, rows_at, plan_rows_from}

-- a sub-area is no larger than all devices
pub size_few : (p : Plan) → WellFormed p → (i : ℕ) → i < p.sub_area_count → size_of (sub_area_of p.sub_areas i) ≤ 16777216
size_few p w i h = omega (arith, w.before_device_end i h, device_end_lem p w _ (w.device_known i h), w.length_sum_lem)

-- a count over the first n areas, as a sum over their numbers
count_in : (q : AreaRecord → Bool) (l : List AreaRecord) (n : ℕ) → n ≤ length l → count_by q (take n l) ≡ sum (λ i. pick (q (area_of l i)) 1 0) n
unfolding sum
count_in q l zero h = refl
count_in q l (suc n) h =
    let before = count_in q l n (omega arith) in
    ap (λ k. count_by q (take k l)) (sym (add-one n))
    ∙ by_bool (q (area_of l n))
    (λ e. count_by_more_yes q l n no_area (omega arith) e ∙ rw (before, e) refl)
    (λ e. count_by_more_no q l n no_area (omega arith) e ∙ rw (before, e) (omega arith))

-- so an area's rank counts the areas with a larger priority
pub rank_counted : (p : Plan) (a : ℕ) → p.area_count ≤ length p.areas → rank_of p a ≡ 1 + count_by (λ (r : AreaRecord). ltb (priority_of p a) r.priority) (take p.area_count p.areas)
unfolding rank_of
rank_counted p a h = ap (λ k. 1 + k) (sym (count_in (λ (r : AreaRecord). ltb (priority_of p a) r.priority) p.areas p.area_count h))

-- the places of an area: none, itself, and slot - 1 as one of its devices
module _ (p : Plan) (a slot : ℕ) where
  pub no_area_lem : p.area_count ≤ a → [] ≡ area_place p a slot
  no_area_lem h = empty slot
    where
      empty : (n : ℕ) → [] ≡ area_place p a n
      empty zero = rw (le-ltb _ _ h)
      empty (suc d) = rw (le-ltb _ _ h)

  pub area_itself : a < p.area_count → slot < 1 → area_row p a ∷ [] ≡ area_place p a slot
  area_itself h s = let e : slot ≡ 0 = omega arith in rw (e, lt-ltb _ _ h)

  pub area_device : a < p.area_count → 1 ≤ slot → if_so (is_on p a (slot - 1)) (on_row a (slot - 1)) ≡ area_place p a slot
  area_device h s = at slot s
    where
      at : (n : ℕ) → 1 ≤ n → if_so (is_on p a (n - 1)) (on_row a (n - 1)) ≡ area_place p a n
      at zero s = absurd (omega arith)
      at (suc d) s = let e : suc d - 1 ≡ d = omega arith in rw (e, lt-ltb _ _ h)

-- the texts of rows, and of others behind them
rows_behind : (l m : List Row) → rows_text (l ++ m) ≡ rows_text l ++ rows_text m
unfolding rows_text
rows_behind [] m = refl
rows_behind (r ∷ l) m = ap (λ t. row_text r ++ t) (rows_behind l m) ∙ sym (append_assoc (row_text r) (rows_text l) (rows_text m))

-- the next place, of those below n
pub place_next : (p : Plan) (n k : ℕ) → k < n → rows_text (plan_rows_from p (n - k) k) ≡ rows_text (rows_at p k) ++ rows_text (plan_rows_from p (n - (k + 1)) (k + 1))
unfolding plan_rows_from
place_next p n k h = let more : n - k ≡ suc (n - (k + 1)) = omega arith in rw more (rows_behind (rows_at p k) _)

-- the text of a place, where it has a row and where it has none
pub place_text : (p : Plan) (k : ℕ) (r : Row) → r ∷ [] ≡ rows_at p k → row_text r ≡ rows_text (rows_at p k)
unfolding rows_text
place_text p k r e = sym (append-nil (row_text r)) ∙ ap rows_text e

pub place_none : (p : Plan) (k : ℕ) → [] ≡ rows_at p k → [] ≡ rows_text (rows_at p k)
unfolding rows_text
place_none p k e = ap rows_text e
