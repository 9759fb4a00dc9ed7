-- What does not depend on ranks, and that an acceptance leaves those of the other areas.
use Rattle.std.specs.Prelude.{ℕ, ◌-◌, Bool, true, false, ◌≡◌, refl, Option, None, Some}
use Rattle.std.proofs.Common.{true≢false, sym, ap, ◌∙◌}
use Rattle.arith.specs.Cases.{by_bool}
use Rattle.memory.specs.declared.Task.{Task}
use Rattle.plan.specs.declared.records.Plan.{Plan}
use Rattle.state.specs.declared.Device.{Device}
use Rattle.state.specs.declared.DeviceState.{DeviceState}
use Rattle.state.specs.declared.DeviceState.TheVariants.{Free, Runs, LockedFor}
use Rattle.state.specs.declared.Job.{Job}
use Rattle.state.specs.declared.SuspendedErase.{SuspendedErase}
use Rattle.rules.proofs.laws.Close.{TallyFits}
use Rattle.rules.specs.History.{Tally}
use Rattle.rules.specs.Layout.{Layout, priority_of, layout_of, ranked, layout_at}
use Rattle.rules.specs.Machine.{Core, is_pending, need, Wait, none, wait_behind, wait_on}
use Rattle.rules.proofs.laws.Potential.{to_come, if_below, low_left, later_left, left_of, left_idle}
use Rattle.rules.proofs.laws.RankLaws.{AgesApart, ranks_kept}
use Rattle.rules.specs.Ranks.{ages_after, ranks_above}
use Rattle.rules.proofs.laws.Reachable.{StateFits, SuspendedFits, Reachable, left_at}

-- how area a stands to the erase that is suspended
abbrev low_wait : Layout → ℕ → Option SuspendedErase → Wait
low_wait p a None = none
low_wait p a (Some s) = wait_behind p a s.area

module _ (p : Layout) (r s : ℕ → ℕ → Bool) where
  -- that a state is reachable does not depend on ranks
  state_ranked : (jobs : ℕ → Job) (d : ℕ) (x : DeviceState) → StateFits (ranked r p) jobs d x → StateFits (ranked s p) jobs d x
  state_ranked jobs d Free f = tt
  state_ranked jobs d (LockedFor a) f = tt
  state_ranked jobs d (Runs a q) f = record { pending = f.pending; no_lock = f.no_lock; needed = f.needed; few = f.few }

  suspended_ranked : (jobs : ℕ → Job) (d : ℕ) (x : Option SuspendedErase) → SuspendedFits (ranked r p) jobs d x → SuspendedFits (ranked s p) jobs d x
  suspended_ranked jobs d None f = tt
  suspended_ranked jobs d (Some s) f =
      record { pending = f.pending; erases = f.erases; needed = f.needed; few = f.few; polled = f.polled; can = f.can }

  pub reranked : (admits : ℕ → Task → Bool) (c : Core) → Reachable (ranked r p) admits c → Reachable (ranked s p) admits c
  reranked admits c f =
      record {
        devices = λ d.
            let k = f.devices d in
            record {
              state = state_ranked c.jobs d (c.devices d).state k.state;
              suspended = suspended_ranked c.jobs d (c.devices d).suspended k.suspended;
              apart = k.apart;
            };
        jobs = λ a h. let k = f.jobs a h in record { known = k.known; admitted = k.admitted; more = k.more; retries = k.retries };
        cancelled = λ a. f.cancelled a;
      }

  -- the wait of area a behind what runs on a device, and how it stands to what is suspended there, are the same under both ranks
  abbrev pub SameWaits : ℕ → Device → Type 0
  SameWaits a x =
      (wait_on (ranked r p) a x.state ≡ wait_on (ranked s p) a x.state) × (low_wait (ranked r p) a x.suspended ≡ low_wait (ranked s p) a x.suspended)

  -- then what is left stays
  low_ranked : (a limit : ℕ) (x : Option SuspendedErase) → low_wait (ranked r p) a x ≡ low_wait (ranked s p) a x →
      low_left (ranked r p) a limit x ≡ low_left (ranked s p) a limit x
  low_ranked a limit None e = refl
  low_ranked a limit (Some s) e = ap (λ w. if_below w (limit - s.polls)) e

  pub left_ranked : (t a : ℕ) (j : Job) (x : Device) → SameWaits a x → left_of (ranked r p) t a j x ≡ left_of (ranked s p) t a j x
  unfolding left_of later_left
  left_ranked t a j x e = rw (e.0, low_ranked a (p.limit (need p a j)) x.suspended e.1)

  pub tally_ranked : (c : Core) (a : ℕ) (w : Tally) → (is_pending (c.jobs a) ≡ true → SameWaits a (c.devices (need p a (c.jobs a)))) →
      TallyFits (ranked r p) c a w → TallyFits (ranked s p) c a w
  tally_ranked c a w e f =
      let same : left_at (ranked r p) 0 c a ≡ left_at (ranked s p) 0 c a
      = by_bool (is_pending (c.jobs a))
      (λ h. left_ranked (to_come 0 (need p a (c.jobs a))) a (c.jobs a) (c.devices (need p a (c.jobs a))) (e h))
      (λ h. left_idle (ranked r p) a (c.jobs a) _ _ h ∙ sym (left_idle (ranked s p) a (c.jobs a) _ _ h)) in
      record { sum = f.sum; by_round_lem = f.by_round_lem; left = rw (sym same) f.left }

-- the acceptance of a job of area a, which is idle, leaves every wait
pub waits_kept : (p : Plan) (ages : ℕ → ℕ) → AgesApart ages → (admits : ℕ → Task → Bool) (c : Core) →
    Reachable (layout_of p) admits c → (a : ℕ) → is_pending (c.jobs a) ≡ false → (b : ℕ) → is_pending (c.jobs b) ≡ true →
    SameWaits (layout_of p) (ranks_above (priority_of p) ages) (ranks_above (priority_of p) (ages_after a ages)) b (c.devices (need (layout_of p) b (c.jobs b)))
unfolding wait_behind
waits_kept p ages apart admits c r a idle b h = (go (c.devices d).state (r.devices d).state, low (c.devices d).suspended (r.devices d).suspended)
  where
    d : ℕ
    d = need (layout_of p) b (c.jobs b)

    other : (i : ℕ) → is_pending (c.jobs i) ≡ true → i ≡ a → ⊥
    other i k e = true≢false (sym k ∙ ap (λ n. is_pending (c.jobs n)) e ∙ idle)

    same : (i : ℕ) → is_pending (c.jobs i) ≡ true → wait_behind (layout_at p ages) b i ≡ wait_behind (layout_at p (ages_after a ages)) b i
    same i k = rw (ranks_kept a ages apart (priority_of p) i b (other i k) (other b h))

    go : (x : DeviceState) → StateFits (layout_of p) c.jobs d x → wait_on (layout_at p ages) b x ≡ wait_on (layout_at p (ages_after a ages)) b x
    go Free k = refl
    go (LockedFor i) k = refl
    go (Runs i q) k = same i k.pending

    low : (x : Option SuspendedErase) → SuspendedFits (layout_of p) c.jobs d x → low_wait (layout_at p ages) b x ≡ low_wait (layout_at p (ages_after a ages)) b x
    low None k = refl
    low (Some s) k = same s.area k.pending
