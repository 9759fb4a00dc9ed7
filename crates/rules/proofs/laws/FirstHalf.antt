-- The first half of a round, device by device.
use Rattle.std.specs.Prelude.{ℕ, zero, suc, ◌+◌, ◌-◌, ◌≤◌, ◌<◌, Bool, true, false, ◌≡◌, ltb, eqb, Option, None, Some}
use Rattle.std.proofs.lemmas.Bool.{false≢true}
use Rattle.std.proofs.Common.{true≢false, sym, ap, subst, ◌∙◌, le_refl, arith, ltb-true, eqb-true, eq-eqb}
use Rattle.std.proofs.Math.Path.{refl}
use Rattle.arith.specs.Bounded.{below_suc}
use Rattle.arith.specs.Cases.{pick, by_ltb, by_eqb}
use Rattle.arith.specs.Parts.{upd, upd_same, upd_other, upd_case}
use Rattle.memory.specs.declared.Task.{Task}
use Rattle.state.specs.declared.Device.{Device}
use Rattle.state.specs.declared.DeviceState.{DeviceState}
use Rattle.state.specs.declared.DeviceState.TheVariants.{Free, Runs, LockedFor}
use Rattle.state.specs.declared.Job.{Job}
use Rattle.state.specs.declared.SuspendedErase.{SuspendedErase}
use Rattle.rules.proofs.laws.FewLeft.{low_few}
use Rattle.rules.proofs.laws.Laws.{Laws}
use Rattle.rules.proofs.laws.Polls.{PolledOn, Taken, first_turn, take_poll}
use Rattle.rules.specs.Layout.{Layout, most_below}
use Rattle.rules.specs.Machine as Machine
use Rattle.rules.specs.Machine.{Core, doing, set_state, set_both, need, kept_for, Verdict, take_running, take_on, take_answer, first_half, wait_behind}
use Rattle.rules.proofs.laws.Potential.{AtMost, to_come, closes_on, low_left, later_left, left_of, by_behind, later_left_lem}
use Rattle.rules.proofs.laws.Reachable.{Running, Apart, JobFits, Reachable, FollowsAt, passed, passes_on}
use Rattle.rules.proofs.laws.RequestEnd.{Settled, failed_settled, finished_settled, differs_settled}
use Rattle.rules.proofs.laws.Turns.{NoWorse, state_no_worse, device_no_worse, suspended_keeps, same_passes, none_passes, both_passes}

-- before its answer of this round, and after it with a poll, a request sees fewer closes than the limit
pub closes_few : (n d limit : ℕ) (x : DeviceState) → (d < n → PolledOn x) → closes_on (to_come n d) limit x ≤ limit - 1
closes_few n d limit Free h = omega arith
closes_few n d limit (LockedFor a) h = omega arith
closes_few n d limit (Runs a q) h = by_ltb d n (λ e l. rw e (omega (arith, h l))) (λ e l. rw e (omega arith))

-- another area's request ends
end_no_worse : (p : Layout) (limit a b m : ℕ) → (b ≡ a → ⊥) → NoWorse limit (wait_behind p a b) Machine.none m 0
end_no_worse p limit a b m f =
    by_behind (λ w. NoWorse limit w Machine.none m 0) p a b
    (λ e. absurd (f e))
    (λ _ _. record { left = omega arith; runs = λ i. i })
    (λ _ _. record { left = omega arith; runs = λ i. i })

module _ (p : Layout) (admits : ℕ → Task → Bool) (n : ℕ) (c : Core) (r : Reachable p admits c)
    (polled : (d : ℕ) → d < n → PolledOn (c.devices d).state) where
  -- nothing runs
  take_none : (x : DeviceState) → (c.devices n).state ≡ x → PolledOn x → closes_on 0 (p.limit n) x ≤ closes_on 1 (p.limit n) x →
      Taken p admits n (suc n) c c
  take_none x e h i =
      record {
        passes = none_passes p admits (first_turn n) c r (λ a. device_no_worse p a (p.limit n) 1 0 (c.devices n) (rw e i));
        polled = λ d l. below_suc d n l (λ f. rw (f, e) h) (polled d);
      }

  module _ (L : Laws p admits) (b q : ℕ) (e : (c.devices n).state ≡ Runs b q) where
    -- device n runs area b
    runs : Running p n b q (c.jobs b)
    runs = rw e at (r.devices n).state

    -- nor is its job that of what is suspended
    not_kept : (s : Option SuspendedErase) → Apart (Runs b q) s → (k : ℕ) → s ≡ Some (record { area = b; polls = k }) → ⊥
    not_kept None h k g = absurd (true≢false (sym (ap (kept_for b) g ∙ eq-eqb b b refl)))
    not_kept (Some s) h k g = h (sym (eqb-true s.area b (ap (kept_for b) g ∙ eq-eqb b b refl)))

    -- the request ends
    take_end : (k : Job) → Settled p admits b (c.jobs b) k → Taken p admits n (suc n) c (set_both b k n Free c)
    take_end k s =
        record {
          passes = both_passes p admits (first_turn n) c r (doing Free (c.devices n)) b k runs.needed
              (record {
                state = tt;
                suspended = suspended_keeps p c.jobs b k n (c.devices n).suspended
                    (λ l g _. absurd (not_kept (c.devices n).suspended (rw e at (r.devices n).apart) l g)) (r.devices n).suspended;
                apart = tt;
              })
              mine (λ a f. state_no_worse p a (p.limit n) 1 0 (c.devices n) Free (rw e (end_no_worse p _ a b _ f)));
          polled = λ d h. upd_case (λ x. PolledOn x.state) c.devices n d _ (λ _. tt) (λ f. polled d (omega arith));
        }
      where
        -- the device when its request has ended
        y : Device
        y = doing Free (c.devices n)

        low : ℕ
        low = low_left p b (p.limit n) (c.devices n).suspended

        closes : (d : ℕ) → closes_on (to_come (suc n) d) (p.limit d) (upd c.devices n y d).state
            + low_left p b (p.limit d) (upd c.devices n y d).suspended ≤ pick (eqb n d) low (most_below p d)
        closes d =
            by_eqb n d
            (λ g f. rw (g, ← f, upd_same c.devices n (doing Free (c.devices n))) (omega arith))
            (λ g f. rw (g, upd_other c.devices n d (doing Free (c.devices n)) f, (first_turn n).others d f)
            (let h = closes_few n d (p.limit d) (c.devices d).state (polled d) in
            let i = low_few p c.jobs d b (c.devices d).suspended (r.devices d).suspended in
            omega (arith, h, i)))

        left : (t : ℕ) →
            AtMost (left_of p (to_come (suc n) (need p b k)) b k (upd c.devices n y (need p b k))) (left_of p t b (c.jobs b) (c.devices n))
        left t =
            let u = s.left (to_come (suc n) (need p b k)) low (upd c.devices n y (need p b k)) (rw runs.needed (closes (need p b k))) in
            let v = later_left_lem p b (c.jobs b) t (c.devices n) runs.pending runs.no_lock in
            let v = subst (λ d. AtMost (record { own = (later_left p b (c.jobs b)).own; below = low_left p b (p.limit d) (c.devices n).suspended + (later_left p b (c.jobs b)).below })
            (left_of p t b (c.jobs b) (c.devices n))) runs.needed v in
            omega (arith, u, v)

        mine : FollowsAt p admits n (suc n) c (set_both b k n Free c) b
        mine =
            rw (upd_same c.jobs b k)
            (record {
              left = subst (λ d. AtMost (left_of p (to_come (suc n) (need p b k)) b k (upd c.devices n y (need p b k)))
                  (left_of p (to_come n (need p b (c.jobs b))) b (c.jobs b) (c.devices d))) (sym runs.needed) (left (to_come n (need p b (c.jobs b))));
              task = s.task;
              pending = λ _. runs.pending;
              fits = λ _. s.fits;
              cancelled = λ _ h. absurd (false≢true (sym s.over ∙ h));
            })

    -- the request takes its answer
    take_running_lem : (v : Verdict) → Taken p admits n (suc n) c (take_running p n b q v (ltb (q + 1) (p.limit n)) c)
    take_running_lem v = go v (ltb (q + 1) (p.limit n)) refl
      where
        f : JobFits p admits b (c.jobs b)
        f = r.jobs b runs.pending

        go : (v : Verdict) (t : Bool) → ltb (q + 1) (p.limit n) ≡ t → Taken p admits n (suc n) c (take_running p n b q v t c)
        go Machine.goes_on true l = take_poll p admits n c r polled b q e (ltb-true (q + 1) (p.limit n) l)
        go Machine.goes_on false l = take_end _ (failed_settled p admits L b (c.jobs b) f)
        go Machine.finished t l = take_end _ (finished_settled p admits L b (c.jobs b) f)
        go Machine.differs t l = take_end _ (differs_settled p admits L b (c.jobs b) f)
        go Machine.failed t l = take_end _ (failed_settled p admits L b (c.jobs b) f)

  -- device n takes its answer
  take : (L : Laws p admits) (v : Verdict) → Taken p admits n (suc n) c (take_answer p n v c)
  unfolding take_answer
  take L v = go (c.devices n).state refl
    where
      go : (x : DeviceState) → (c.devices n).state ≡ x → Taken p admits n (suc n) c (take_on p n v x c)
      go Free e = take_none Free e tt (le_refl 0)
      go (LockedFor b) e = take_none (LockedFor b) e tt (le_refl 0)
      go (Runs b q) e = take_running_lem L b q e v

-- the devices below n take their answers
pub first_half_lem : (p : Layout) (admits : ℕ → Task → Bool) (L : Laws p admits) (v : ℕ → Verdict) (c : Core) → Reachable p admits c →
    (n : ℕ) → Taken p admits 0 n c (first_half p v n c)
unfolding first_half
first_half_lem p admits L v c r zero = record { passes = same_passes p admits 0 c r; polled = λ d h. absurd (omega arith) }
first_half_lem p admits L v c r (suc n) =
    let i = first_half_lem p admits L v c r n in
    let s = take p admits n (first_half p v n c) (passed r i.passes) i.polled L (v n) in
    record { passes = passes_on i.passes s.passes; polled = s.polled }
