-- Accepted jobs, releases and cancels keep the manager where the history is.
use Rattle.std.specs.Prelude.{ℕ, ◌<◌, Bool, true, false, ◌≡◌, refl}
use Rattle.std.proofs.Common.{sym, ap, subst, ◌∙◌, arith}
use Rattle.std.proofs.Math.ListN.{length-set}
use Rattle.arith.specs.Cases.{by_ltb}
use Rattle.arith.specs.Parts.{upd, upd_same, upd_other, upd_case, same_or}
use Rattle.manager.specs.Calls.{core_of, with_area, with_accepted, with_device}
use Rattle.manager.specs.declared.Manager.{Manager}
use Rattle.memory.specs.declared.Task.{Task}
use Rattle.close.specs.Close.{waits_in}
use Rattle.rules.specs.History.{no_tally, History, with_core, submitted}
use Rattle.rules.specs.Layout.{Layout, layout_of}
use Rattle.rules.specs.Machine.{Core, set_job, need, holds, begun, begin, cancel_if, cancel, release}
use Rattle.rules.proofs.laws.RankLaws.{AgesApart}
use Rattle.rules.proofs.laws.Suspends.{Busy}
use Rattle.state.specs.Fresh.{no_waits, fresh_area}
use Rattle.state.specs.declared.Device.{Device}
use Rattle.state.specs.declared.DeviceState.TheVariants.{LockedFor}
use Rattle.state.specs.declared.Job.{Job}
use Rattle.state.specs.declared.Waits.{Waits}
use Rattle.devices.specs.laws.ArrayLaws.{view_set, job_set, device_set, state_past}
use Rattle.program.specs.laws.Arrays.{ages_set}
use Rattle.program.specs.Stands.{stuck, ages_of, beside, Stands}

-- A job, a cancel or a release changes one entry of the core: with what it makes of that entry, the rest as it was, it is the whole core.
begun_core : (p : Layout) (a : ℕ) (t : Task) (c : Core) → set_job a ((begin p a t c).jobs a) c ≡ begin p a t c
unfolding begin
begun_core p a t c = ap (λ j. set_job a j c) (upd_same c.jobs a (begun p a t (c.jobs a)))

cancelled_core : (p : Layout) (a : ℕ) (c : Core) → set_job a ((cancel p a c).jobs a) c ≡ cancel p a c
unfolding cancel
cancelled_core p a c = go (holds a (c.devices (need p a (c.jobs a))))
  where
    go : (t : Bool) → set_job a ((cancel_if t a c).jobs a) c ≡ cancel_if t a c
    go true = ap (λ j. set_job a j c) (upd_same c.jobs a _)
    go false = ap (λ j. set_job a j c) (upd_same c.jobs a _)

released_core : (d : ℕ) (c : Core) → record { jobs = c.jobs; devices = upd c.devices d ((release d c).devices d) } ≡ release d c
unfolding release
released_core d c = ap (λ x. record { jobs = c.jobs; devices = upd c.devices d x }) (upd_same c.devices d _)

module _ (m : Manager) (h : History) (S : Stands m.plan m (beside m h)) where
  -- area a gets job j and waits w
  area_core : (a : ℕ) (j : Job) (w : Waits) → a < 8 → core_of (with_area a j w m) ≡ set_job a j (core_of m)
  area_core a j w l =
      let e = job_set m.areas a (record { job = j; waits = w }) (rw S.areas_length l) in
      λ i. record { jobs = e i; devices = (core_of m).devices }

  -- device d becomes x
  device_core : (d : ℕ) (x : Device) → d < 4 → core_of (with_device d x m) ≡ record { jobs = (core_of m).jobs; devices = upd (core_of m).devices d x }
  device_core d x l =
      let e = device_set m.devices d x (rw S.devices_length l) in
      λ i. record { jobs = (core_of m).jobs; devices = e i }

  -- the waits of the areas when area a gets job j and waits w
  area_waits : (a : ℕ) (j : Job) (w : Waits) → a < 8 → (b : ℕ) → waits_in (with_area a j w m).areas b ≡ upd (waits_in m.areas) a w b
  area_waits a j w l = view_set (λ x. x.waits) m.areas fresh_area a (record { job = j; waits = w }) (rw S.areas_length l)

  -- an accepted job
  pub job_kept : AgesApart (ages_of m) → (a : ℕ) (t : Task) → a < 8 →
      Stands m.plan (with_accepted a ((begin (layout_of m.plan) a t (core_of m)).jobs a) no_waits m) (submitted m.plan a t (beside m h))
  unfolding submitted
  job_kept apart a t l =
      record {
        plan = refl;
        areas_length = rw length-set S.areas_length;
        devices_length = S.devices_length;
        core = area_core a _ no_waits l ∙ begun_core (layout_of m.plan) a t (core_of m);
        ages = ages_set m.ages apart a l;
        waits = λ b g.
            area_waits a _ no_waits l b
            ∙ same_or (λ b. b < 8 → upd (waits_in m.areas) a no_waits b ≡ stuck (upd h.tallies a no_tally b)) a b
            (λ _. simp upd_same refl)
            (λ f g. simp upd_other (S.waits b g))
            g;
        wear_length = S.wear_length;
        wear = S.wear;
      }

  -- an accepted cancel
  pub cancel_kept : (a : ℕ) → a < 8 → let e = cancel (layout_of m.plan) a (core_of m) in
      Stands m.plan (with_area a (e.jobs a) (waits_in m.areas a) m) (with_core e (beside m h))
  cancel_kept a l =
      record {
        plan = refl;
        areas_length = rw length-set S.areas_length;
        devices_length = S.devices_length;
        core = area_core a _ (waits_in m.areas a) l ∙ cancelled_core (layout_of m.plan) a (core_of m);
        ages = refl;
        waits = λ b g.
            area_waits a _ (waits_in m.areas a) l b
            ∙ upd_case (λ w. w ≡ stuck (h.tallies b)) (waits_in m.areas) a b (waits_in m.areas a)
            (λ e. ap (waits_in m.areas) e ∙ S.waits b g)
            (λ _. S.waits b g);
        wear_length = S.wear_length;
        wear = S.wear;
      }

  -- a device that is locked is one of the manager's
  locked_known : (d a : ℕ) → ((core_of m).devices d).state ≡ LockedFor a → d < 4
  locked_known d a e =
      by_ltb d 4 (λ _ l. l)
      (λ _ l. absurd (subst Busy (state_past m.devices d (omega (arith, S.devices_length))) (subst Busy (sym e) tt)))

  -- an accepted release
  pub release_kept : (d a : ℕ) → ((core_of m).devices d).state ≡ LockedFor a → let e = release d (core_of m) in
      Stands m.plan (with_device d (e.devices d) m) (with_core e (beside m h))
  release_kept d a e =
      record {
        plan = refl;
        areas_length = S.areas_length;
        devices_length = rw length-set S.devices_length;
        core = device_core d _ (locked_known d a e) ∙ released_core d (core_of m);
        ages = refl;
        waits = S.waits;
        wear_length = S.wear_length;
        wear = S.wear;
      }
