-- A device's turn in the first half of a round, and the answer pending.
use Rattle.std.specs.Prelude.{ℕ, suc, ◌+◌, ◌≤◌, ◌<◌, Bool, ◌≡◌, Option, None, Some}
use Rattle.std.proofs.Common.{le_refl, arith, lt-ltb, le-ltb}
use Rattle.arith.specs.Cases.{by_ltb}
use Rattle.arith.specs.Parts.{upd_case}
use Rattle.memory.specs.declared.Task.{Task}
use Rattle.state.specs.declared.DeviceState.{DeviceState}
use Rattle.state.specs.declared.DeviceState.TheVariants.{Free, Runs, LockedFor}
use Rattle.state.specs.declared.SuspendedErase.{SuspendedErase}
use Rattle.rules.specs.Layout.{Layout}
use Rattle.rules.specs.Machine.{Core, doing, set_state, wait_behind}
use Rattle.rules.proofs.laws.Reachable.{Running, Apart, Reachable, Passes}
use Rattle.rules.proofs.laws.Turns.{same_no_worse, state_no_worse, Turn, device_passes}

-- a request that has given this round's answer and runs on has a poll
abbrev pub PolledOn : DeviceState → Type 0
PolledOn Free = Unit {0}
PolledOn (LockedFor a) = Unit {0}
PolledOn (Runs a polls) = 1 ≤ polls

-- from core c, where the devices below n have given this round's answer, to core e, where those below m have
pub record Taken (p : Layout) (admits : ℕ → Task → Bool) (n m : ℕ) (c e : Core) : Type 0 where
  pub passes : Passes p admits n m c e
  pub polled : (d : ℕ) → d < m → PolledOn (e.devices d).state

-- device n gives its answer
pub first_turn : (n : ℕ) → Turn n (suc n) n 1 0
first_turn n =
    record {
      before = rw (le-ltb n n (le_refl n));
      after = rw (lt-ltb n (suc n) (le_refl _));
      others = λ k h.
          by_ltb k n
          (λ e f. rw (e, lt-ltb k (suc n) (omega arith)))
          (λ e f. rw (e, le-ltb k (suc n) (omega arith)));
    }

module _ (p : Layout) (admits : ℕ → Task → Bool) (n : ℕ) (c : Core) (r : Reachable p admits c)
    (polled : (d : ℕ) → d < n → PolledOn (c.devices d).state) (b q : ℕ) (e : (c.devices n).state ≡ Runs b q) where
  -- device n runs area b
  running : Running p n b q (c.jobs b)
  running = rw e at (r.devices n).state

  -- what runs on is still not what is suspended
  polled_apart : (s : Option SuspendedErase) → Apart (Runs b q) s → Apart (Runs b (q + 1)) s
  polled_apart None h = tt
  polled_apart (Some s) h = h

  -- "Pending adds 1 to the request's polls"
  pub take_poll : q + 1 < p.limit n → Taken p admits n (suc n) c (set_state n (Runs b (q + 1)) c)
  take_poll l =
      record {
        passes = device_passes p admits (first_turn n) c r (doing (Runs b (q + 1)) (c.devices n))
            (record {
              state = record { pending = running.pending; no_lock = running.no_lock; needed = running.needed; few = l };
              suspended = (r.devices n).suspended;
              apart = polled_apart (c.devices n).suspended (rw e at (r.devices n).apart);
            })
            (λ a _ _. state_no_worse p a (p.limit n) 1 0 (c.devices n) (Runs b (q + 1)) (rw e (same_no_worse _ (wait_behind p a b) _ _ (omega arith))));
        polled = λ d h. upd_case (λ x. PolledOn x.state) c.devices n d _ (λ _. omega arith) (λ f. polled d (omega arith));
      }
