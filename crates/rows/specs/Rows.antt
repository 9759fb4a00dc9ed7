-- The rows of an audit, and the text of each. What the numbers of a row are is said where it is made (crate `audits`).
use Rattle.std.specs.Prelude.{ℕ, List, [], ◌∷◌, ◌++◌}
use Rattle.rows.specs.Forms.{bytes_in, filled}
use Rattle.rows.specs.declared.Form.{Form}
use Rattle.rows.specs.declared.Form.TheVariants.{OfPlan, OfJob, OfReach, OfWait}
use Rattle.rows.specs.declared.PlanForm.{PlanForm}
use Rattle.rows.specs.declared.PlanForm.TheVariants.{Device, DeviceSuspends, DeviceClears, Area, AreaNoWindow, AreaOn, PairAbove, PairBelow, PairEqual}
use Rattle.rows.specs.declared.JobForm.{JobForm}
use Rattle.rows.specs.declared.JobForm.TheVariants.{Unreadable, Write, Read, Compare, Erase, BlankCheck, Lock, Refused}
use Rattle.rows.specs.declared.ReachForm.{ReachForm}
use Rattle.rows.specs.declared.ReachForm.TheVariants.{ImageChanged, ImageRead, ImageNone, WindowChanged, WindowRead, WindowNone, Stretch, Segment, Counts}
use Rattle.rows.specs.declared.WaitForm.{WaitForm}
use Rattle.rows.specs.declared.WaitForm.TheVariants.{Own, Below, Above, AboveOver, LockedNone, LockedSome, Rounds, RoundsNone}
use Rattle.rows.specs.declared.Row.{Row}

abbrev pub plan_form : PlanForm → List ℕ
plan_form Device = bytes_in "device # bytes #..# patience #\n"
plan_form DeviceSuspends = bytes_in "device # bytes #..# patience # suspends\n"
plan_form DeviceClears = bytes_in "device # bytes #..# patience # suspends clears\n"
plan_form Area = bytes_in "area # rank # priority # logical #..# window #..#\n"
plan_form AreaNoWindow = bytes_in "area # rank # priority # logical #..# window none\n"
plan_form AreaOn = bytes_in "area # on device #\n"
plan_form PairAbove = bytes_in "pair # behind # device # above: each job of area # adds at most its own by Demands.above-bounded\n"
plan_form PairBelow = bytes_in "pair # behind # device # below: each stretch adds at most # x (# - 1) = # by Demand3.below\n"
plan_form PairEqual = bytes_in "pair # behind # device # above if accepted later by FirstCome, else below: each stretch adds at most # x (# - 1) = # by Demand3.below\n"

abbrev pub job_form : JobForm → List ℕ
job_form Unreadable = bytes_in "?\n"
job_form Write = bytes_in "job 1 # # # write\n"
job_form Read = bytes_in "job 2 # # # read\n"
job_form Compare = bytes_in "job 3 # # # compare\n"
job_form Erase = bytes_in "job 4 # # # erase\n"
job_form BlankCheck = bytes_in "job 6 # # # blank check\n"
job_form Lock = bytes_in "job 7 # # # lock\n"
job_form Refused = bytes_in "refused #\n"

abbrev pub reach_form : ReachForm → List ℕ
reach_form ImageChanged = bytes_in "image device # bytes #..# changed by RoundChanges.image-reach\n"
reach_form ImageRead = bytes_in "image device # bytes #..# looked at by Demand2.cut\n"
reach_form ImageNone = bytes_in "image none\n"
reach_form WindowChanged = bytes_in "window bytes #..# changed by RoundChanges.store-reach\n"
reach_form WindowRead = bytes_in "window bytes #..# looked at\n"
reach_form WindowNone = bytes_in "window none\n"
reach_form Stretch = bytes_in "stretch # device # below at most # x (# - 1) = #\n"
reach_form Segment = bytes_in "segment # device # bytes #..# tries # rounds # x # = #\n"
reach_form Counts = bytes_in "segments # stretches #\n"

abbrev pub wait_form : WaitForm → List ℕ
wait_form Own = bytes_in "own at most # by Demand3.own\n"
wait_form Below = bytes_in "below at most # by Demand3.below\n"
wait_form Above = bytes_in "above at most # by OnlyThese.above if no other job is accepted; else each job above it adds at most its own by Demands.above-bounded\n"
wait_form AboveOver = bytes_in "above no figure: it is over 64 bits\n"
wait_form LockedNone = bytes_in "locked 0 by OnlyThese.locked if no other job is accepted; else no bound: as long as an area holds the device\n"
wait_form LockedSome = bytes_in "locked no bound: as long as an area holds the device, as a lock request here may\n"
wait_form Rounds = bytes_in "rounds at most # + # + # + 1 = # by OnlyThese.rounds if no other job is accepted\n"
wait_form RoundsNone = bytes_in "rounds no bound\n"

abbrev pub form_of : Form → List ℕ
form_of (OfPlan f) = plan_form f
form_of (OfJob f) = job_form f
form_of (OfReach f) = reach_form f
form_of (OfWait f) = wait_form f

abbrev pub row_of : Form → ℕ → ℕ → ℕ → ℕ → ℕ → ℕ → ℕ → ℕ → Row
row_of f a b c d e g h i = record { form = f; numbers = a ∷ b ∷ c ∷ d ∷ e ∷ g ∷ h ∷ i ∷ [] }

unfoldable pub row_text : Row → List ℕ
row_text r = filled (form_of r.form) r.numbers

-- rows one behind the other
unfoldable pub rows_text : List Row → List ℕ
rows_text [] = []
rows_text (r ∷ l) = row_text r ++ rows_text l
