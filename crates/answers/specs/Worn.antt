-- document 02, 05: "Each done erase adds the number of sectors in its piece": what a device's answer wears, before it is taken
use Rattle.std.specs.Prelude.{Bool, true, false}
use Rattle.arith.specs.Cases.{pick}
use Rattle.memory.specs.declared.DeviceAnswer.{DeviceAnswer}
use Rattle.memory.specs.declared.DeviceAnswer.TheVariants as Answers
use Rattle.memory.specs.declared.JobType.{JobType}
use Rattle.segment.specs.Segments.{is_erase}
use Rattle.segment.specs.declared.Segment.{Segment}
use Rattle.state.specs.declared.DeviceState.{DeviceState}
use Rattle.state.specs.declared.DeviceState.TheVariants.{Free, Runs, LockedFor}
use Rattle.wear.specs.Wear.{sectors_in, no_worn}
use Rattle.wear.specs.declared.Worn.{Worn}

abbrev pub is_done : DeviceAnswer → Bool
is_done Answers.Pending = false
is_done Answers.Done = true
is_done (Answers.Failed k) = false

-- of a device in this state whose request is segment s of a job of this type
abbrev pub worn_on : DeviceState → DeviceAnswer → JobType → Segment → Worn
worn_on Free x k s = no_worn
worn_on (LockedFor a) x k s = no_worn
worn_on (Runs a polls) x k s =
    pick (is_done x) (pick (is_erase k) (record { sub_area = s.sub_area; sectors = sectors_in s.length s.sector }) no_worn) no_worn
