use mathlib.Core.List.{[]}
use mathlib.Core.Path.{◌≡◌}
use Prim.Native.Nat.{◌≤◌}
use lib.ListN.{length}
use Rattle.arith.specs.Tables.{table}
use Rattle.machine.specs.laws.Dues.{Due}
use Rattle.devices.specs.Arrays.{job_in, core_in}
use Rattle.effects.specs.Effects.{memory_of}
use Rattle.rules.specs.Machine.{second_half}
use Rattle.rules.specs.Round.{take_all}
use Rattle.wear.specs.Wear.{no_worn}
use Rattle.close.specs.Close.{area_after, lent_to}
use Rattle.rounds.specs.laws.CloseLaws.{ClosedTo}
use Rattle.rounds.specs.laws.Halves.{both}
use Rattle.close.specs.laws.Waits.{needs_layout}
use Rattle.rounds.specs.laws.WearTurns.{worn_for}
use Rattle.rounds.proofs.halves.run_round.Given as goal

abbrev pub invariant-loop-k : goal.invariant-loop-k
invariant-loop-k l =
    record {
      few_devices : l.plan.device_count ≤ 4;
      worn : l.worn ≡ table 4 (worn_for l.areas l.devices l.dues l.answers) no_worn l.k;
    }

abbrev pub invariant-loop-d : goal.invariant-loop-d
invariant-loop-d l =
    record {
      few_devices : l.plan.device_count ≤ 4;
      few_areas : l.plan.area_count ≤ 8;
      few_sub_areas : l.plan.sub_area_count ≤ 32;
      sub_areas : l.sub_areas ≡ l.plan.sub_areas;
      records : l.records ≡ l.plan.areas;
      device_records : l.device_records ≡ l.plan.devices;
      image_stays : length l.image ≡ length l.initial.image;
      store_stays : length l.store ≡ length l.initial.store;
      areas_are : length l.areas ≡ 8;
      devices_are : length l.devices ≡ 4;
      dues_are : length l.dues ≡ 8;
      answered :
          (core_in l.areas l.devices, memory_of l.image l.store)
          ≡ both (take_all l.plan l.answers l.d (lent_to l.initial.areas l.initial.devices (memory_of l.initial.image l.initial.store)));
      due : Due l.plan l.dues (job_in l.areas);
    }

abbrev pub invariant-loop-e : goal.invariant-loop-e
invariant-loop-e l =
    record {
      areas_are : length l.areas ≡ 8;
      devices_are : length l.devices ≡ 4;
      picked :
          core_in l.areas l.devices
          ≡ second_half (needs_layout l.records l.ages l.plan.area_count l.device_records l.needs) l.e (core_in l.initial.areas l.initial.devices);
    }

abbrev pub invariant-loop-a : goal.invariant-loop-a
invariant-loop-a l = ClosedTo (area_after (needs_layout l.records l.ages 0 [] l.needs) l.before (core_in l.initial.areas l.devices)) l.initial.areas l.a l.areas
