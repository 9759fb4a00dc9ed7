-- document 01, "A round": both halves on the manager's arrays, and the counts when it closes
use Rattle.std.specs.Prelude.{ℕ, ◌+◌, min, Bool, List, [], get_or}
use Rattle.arith.specs.Cases.{pick}
use Rattle.arith.specs.Tables.{table}
use Rattle.devices.specs.Arrays.{job_in, core_in}
use Rattle.memory.specs.declared.DeviceAnswer.{DeviceAnswer}
use Rattle.plan.specs.declared.records.Plan.{Plan}
use Rattle.rules.specs.Layout.{Layout}
use Rattle.rules.specs.Machine.{Core, Wait, own, above, below, locked, none, is_pending, wait_of}
use Rattle.rules.specs.Memory.{Memory}
use Rattle.rules.specs.Round.{Half, round_erases, round_halves}
use Rattle.rules.specs.Wear.{wear_after}
use Rattle.state.specs.Ages.{age_in}
use Rattle.state.specs.Fresh.{fresh_area, free_device}
use Rattle.state.specs.declared.Area.{Area}
use Rattle.state.specs.declared.Device.{Device}
use Rattle.state.specs.declared.Waits.{Waits}

-- "The own, above, below and locked counts stick at 4,294,967,295."
abbrev pub most_waits : ℕ
most_waits = 4294967295

abbrev pub stick : ℕ → ℕ
stick n = min (n + 1) most_waits

-- "adds 1 to one count"
abbrev pub counted : Wait → Waits → Waits
counted own w = record { own = stick w.own; above = w.above; below = w.below; locked = w.locked }
counted above w = record { own = w.own; above = stick w.above; below = w.below; locked = w.locked }
counted below w = record { own = w.own; above = w.above; below = stick w.below; locked = w.locked }
counted locked w = record { own = w.own; above = w.above; below = w.below; locked = stick w.locked }
counted none w = w

-- "When the round closes, each job pending since before it adds 1 to one count": pending before the round, and still after its halves
abbrev pub closed : Bool → Bool → Wait → Waits → Waits
closed before still k w = pick before (pick still (counted k w) w) w

-- an area's waits in the manager's array
abbrev pub waits_in : List Area → ℕ → Waits
waits_in l a = (get_or l a fresh_area).waits

-- area a of a manager when a round closes: `before` are the areas given, `after` what both halves made of jobs and devices
abbrev pub area_after : Layout → List Area → Core → ℕ → Area
area_after p before after a =
    record {
      job = after.jobs a;
      waits = closed (is_pending (job_in before a)) (is_pending (after.jobs a)) (wait_of p after a) (waits_in before a);
    }

unfoldable pub areas_after : Layout → List Area → Core → List Area
areas_after p before after = table 8 (area_after p before after) fresh_area 8

unfoldable pub devices_after : Core → List Device
devices_after after = table 4 after.devices free_device 4

-- both halves of a round, on the arrays and the lent memory. The list of requests done, which demand 2 speaks of, is kept by the
-- wait history alone.
abbrev pub lent_to : List Area → List Device → Memory → Half
lent_to areas devices m = record { core = core_in areas devices; memory = m; done = λ a. [] }

unfoldable pub halves_of : Plan → List Area → List Device → List ℕ → List DeviceAnswer → Memory → Half
halves_of p areas devices ages answers m = round_halves p (age_in ages) answers (lent_to areas devices m)

-- document 02, 05: the sums of the sub-areas after a round, which no area and no device holds
unfoldable pub wear_after_round : Plan → List Area → List Device → List DeviceAnswer → Memory → List ℕ → List ℕ
wear_after_round p areas devices answers m wear = wear_after p (round_erases p answers (lent_to areas devices m)) wear
