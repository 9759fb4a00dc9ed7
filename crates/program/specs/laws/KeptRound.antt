-- An accepted round keeps the manager where the history is.
use Rattle.std.specs.Prelude.{ℕ, ◌+◌, ◌≤◌, min, Bool, true, false, List, ◌++◌, ◌≡◌, refl}
use Rattle.std.proofs.Common.{sym, ◌∙◌, arith}
use Rattle.std.proofs.Math.Path.{ap}
use Rattle.manager.specs.Calls.{core_of, ranked_of}
use Rattle.manager.specs.declared.Manager.{Manager}
use Rattle.memory.specs.declared.DeviceAnswer.{DeviceAnswer}
use Rattle.close.specs.Close.{most_waits, stick, counted, closed, areas_after, devices_after, lent_to, wear_after_round, halves_of}
use Rattle.rules.specs.History.{Tally, count, close, History, lent, round_of}
use Rattle.rules.specs.Machine.{Wait, own, above, below, locked, none, is_pending, wait_of}
use Rattle.rules.specs.Memory.{Memory}
use Rattle.rounds.specs.laws.WearTurns.{erases_bare}
use Rattle.rules.specs.Round.{Half, round_erases, round_halves}
use Rattle.rules.specs.Wear.{stuck_wear}
use Rattle.rules.proofs.laws.WearLaws.{length_wear, wear_sums}
use Rattle.segment.specs.declared.Segment.{Segment}
use Rattle.state.specs.Fresh.{no_job, free_device}
use Rattle.program.specs.laws.Answers.{Reached, halves_are}
use Rattle.devices.specs.laws.ArrayLaws.{job_past, device_past}
use Rattle.program.specs.laws.Arrays.{areas_after_length, devices_after_length, waits_after, core_after}
use Rattle.program.specs.laws.Halves.{round_leaves_job, round_leaves_device}
use Rattle.program.specs.Stands.{stuck, ages_of, beside, Stands}

-- one more of a number that sticks
stick_more : (n : ℕ) → stick (min n most_waits) ≡ min (n + 1) most_waits
stick_more n = omega arith

-- one wait more
stuck_count : (k : Wait) (w : Tally) → counted k (stuck w) ≡ stuck (count k w)
stuck_count own w = ap (λ n. record { own = n; above = (stuck w).above; below = (stuck w).below; locked = (stuck w).locked }) (stick_more w.own)
stuck_count above w = ap (λ n. record { own = (stuck w).own; above = n; below = (stuck w).below; locked = (stuck w).locked }) (stick_more w.above)
stuck_count below w = ap (λ n. record { own = (stuck w).own; above = (stuck w).above; below = n; locked = (stuck w).locked }) (stick_more w.below)
stuck_count locked w = ap (λ n. record { own = (stuck w).own; above = (stuck w).above; below = (stuck w).below; locked = n }) (stick_more w.locked)
stuck_count none w = refl

-- an area when the round closes
stuck_close : (s t : Bool) (k : Wait) (w : Tally) → closed s t k (stuck w) ≡ stuck (close s t k w)
stuck_close false t k w = refl
stuck_close true false k w = refl
stuck_close true true k w = stuck_count k w

module _ (m : Manager) (h : History) (S : Stands m.plan m (beside m h)) (r : Reached m.plan (core_of m) (ages_of m))
    (answers : List DeviceAnswer) (given : Memory) where
  -- what both halves make of the history
  half : Half
  half = round_halves m.plan (ages_of m) answers (lent given (beside m h))

  -- the erases that it does, by the manager's arrays
  erased : List Segment
  erased = round_erases m.plan answers (lent_to m.areas m.devices given)

  -- nothing past the arrays
  idle_past : (a : ℕ) → 8 ≤ a → half.core.jobs a ≡ no_job
  unfolding half
  idle_past a l =
      let e = job_past m.areas a (omega (arith, S.areas_length)) in
      round_leaves_job m.plan (ages_of m) answers (lent given (beside m h)) r.reachable a (ap is_pending e) ∙ e

  free_past : (d : ℕ) → 4 ≤ d → half.core.devices d ≡ free_device
  unfolding half
  free_past d l =
      round_leaves_device m.plan (ages_of m) answers (lent given (beside m h)) r.reachable d (omega (arith, r.well.device_most))
      ∙ device_past m.devices d (omega (arith, S.devices_length))

  -- with the history's halves
  half_kept : Stands m.plan
      (record {
        plan = m.plan;
        areas = areas_after (ranked_of m) m.areas half.core;
        devices = devices_after half.core;
        ages = m.ages;
        wear = wear_after_round m.plan m.areas m.devices answers given m.wear;
      })
      (round_of m.plan answers given (beside m h))
  unfolding round_of half wear_after_round erased
  half_kept =
      record {
        plan = refl;
        areas_length = areas_after_length (ranked_of m) m.areas half.core;
        devices_length = devices_after_length (ranked_of m) m.areas half.core;
        core = core_after (ranked_of m) m.areas half.core idle_past free_past;
        ages = refl;
        waits = λ a l.
            let before = is_pending ((core_of m).jobs a) in
            let still = is_pending (half.core.jobs a) in
            let wait = wait_of (ranked_of m) half.core a in
            waits_after (ranked_of m) m.areas half.core a l
            ∙ ap (closed before still wait) (S.waits a l)
            ∙ stuck_close before still wait (h.tallies a);
        wear_length = length_wear m.plan erased m.wear ∙ S.wear_length;
        wear = λ i l.
            wear_sums m.plan h.erases m.wear S.wear_length S.wear erased i l
            ∙ ap (λ es. stuck_wear m.plan (es ++ h.erases) i) (sym (erases_bare m.plan answers (lent given (beside m h)) m.plan.device_count));
      }

  -- with the manager's, which are the same
  pub round_kept : let e = (halves_of m.plan m.areas m.devices m.ages answers given).core in
      Stands m.plan
      (record {
        plan = m.plan;
        areas = areas_after (ranked_of m) m.areas e;
        devices = devices_after e;
        ages = m.ages;
        wear = wear_after_round m.plan m.areas m.devices answers given m.wear;
      })
      (round_of m.plan answers given (beside m h))
  unfolding half
  round_kept = rw (ap (λ x. x.0) (halves_are m answers given h)) half_kept
