-- What the audit says of a plan: each device, each area with its rank and devices, and which of two areas that share a device waits behind which.
use Rattle.std.specs.Prelude.{ℕ, zero, suc, ◌+◌, ◌-◌, ◌/◌, ◌%◌, Bool, not, ◌&&◌, List, [], ◌∷◌, ◌++◌, Some, None, ltb, eqb}
use Rattle.std.specs.declared.option.Option.{Option}
use Rattle.arith.specs.Bounded.{sum}
use Rattle.arith.specs.Cases.{pick}
use Rattle.figures.specs.Figures.{factor_of}
use Rattle.plan.specs.Questions.{device_of, area_of, device_end, window_end, area_size}
use Rattle.plan.specs.declared.records.Plan.{Plan}
use Rattle.rows.specs.Rows.{row_of}
use Rattle.rows.specs.declared.Form.TheVariants.{OfPlan}
use Rattle.rows.specs.declared.PlanForm.{PlanForm}
use Rattle.rows.specs.declared.PlanForm.TheVariants.{Device, DeviceSuspends, DeviceClears, Area, AreaNoWindow, AreaOn, PairAbove, PairBelow, PairEqual}
use Rattle.rows.specs.declared.Row.{Row}
use Rattle.rules.specs.Layout.{priority_of, layout_of, most_below}
use Rattle.rules.specs.statements.JobSets.{is_on}

-- a device with its first and last image byte and its patience; document 02, 03: a chip that clears bits can pause too
abbrev pub device_form : Bool → Bool → PlanForm
device_form suspends clears = pick clears DeviceClears (pick suspends DeviceSuspends Device)

abbrev pub device_row : Plan → ℕ → Row
device_row p d =
    let r = device_of p.devices d in
    row_of (OfPlan (device_form r.suspends r.clears)) d r.start (device_end r - 1) r.poll_limit 0 0 0 0

-- rank 1 has no area with a larger priority; areas of one priority share a rank
unfoldable pub rank_of : Plan → ℕ → ℕ
rank_of p a = 1 + sum (λ b. pick (ltb (priority_of p a) (priority_of p b)) 1 0) p.area_count

-- an area with its first and last logical address and the first and last byte of its window
abbrev pub area_form : ℕ → PlanForm
area_form window = pick (eqb window 0) AreaNoWindow Area

abbrev pub area_row : Plan → ℕ → Row
area_row p a =
    let r = area_of p.areas a in
    row_of (OfPlan (area_form r.window.length)) a (rank_of p a) r.priority r.start.0
    (r.start.0 + area_size p.sub_areas p.sub_area_count a - 1) r.window.start (window_end r - 1) 0

abbrev pub on_row : ℕ → ℕ → Row
on_row a d = row_of (OfPlan AreaOn) a d 0 0 0 0 0 0

-- what a stretch of area a waits behind area b on device d at most: the factor times (patience less one)
abbrev pub stretch_row : Plan → ℕ → ℕ → ℕ → PlanForm → Row
stretch_row p a b d f =
    let r = device_of p.devices d in
    row_of (OfPlan f) a b d (factor_of r.suspends) r.poll_limit (most_below (layout_of p) d) 0 0

-- area a behind area b on device d: above where b has the larger priority, below where it has the smaller; of equal ones by acceptance (document 02, 01)
abbrev pub pair_row : Plan → ℕ → ℕ → ℕ → Row
pair_row p a b d =
    pick (ltb (priority_of p a) (priority_of p b)) (row_of (OfPlan PairAbove) a b d b 0 0 0 0)
    (pick (ltb (priority_of p b) (priority_of p a)) (stretch_row p a b d PairBelow) (stretch_row p a b d PairEqual))

abbrev pub if_so : Bool → Row → List Row
if_so shown r = pick shown (r ∷ []) []

-- the row of a place, if it has one
abbrev pub row_if_any : Option Row → List Row
row_if_any None = []
row_if_any (Some r) = r ∷ []

-- The rows have 300 places, each with a row or none: 4 for devices; 5 for each of 8 areas, itself and its devices; 256 for area a behind area b on device d.
abbrev pub area_place : Plan → ℕ → ℕ → List Row
area_place p a zero = if_so (ltb a p.area_count) (area_row p a)
area_place p a (suc d) = if_so (ltb a p.area_count && is_on p a d) (on_row a d)

abbrev pub pair_place : Plan → ℕ → ℕ → ℕ → List Row
pair_place p a b d =
    if_so (ltb a p.area_count && (ltb b p.area_count && (not (eqb a b) && (is_on p a d && is_on p b d)))) (pair_row p a b d)

unfoldable pub rows_at : Plan → ℕ → List Row
rows_at p k =
    pick (ltb k 4) (if_so (ltb k p.device_count) (device_row p k))
    (pick (ltb k 44) (area_place p ((k - 4) / 5) ((k - 4) % 5))
    (pair_place p ((k - 44) / 32) ((k - 44) / 4 % 8) ((k - 44) % 4)))

-- n places from place k on
unfoldable pub plan_rows_from : Plan → ℕ → ℕ → List Row
plan_rows_from p zero k = []
plan_rows_from p (suc n) k = rows_at p k ++ plan_rows_from p n (k + 1)

abbrev pub plan_rows : Plan → List Row
plan_rows p = plan_rows_from p 300 0
