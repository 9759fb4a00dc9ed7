-- The second half of a round, device by device.
use Rattle.std.specs.Prelude.{ℕ, suc, ◌≤◌, ◌<◌, Bool, ◌&&◌, ◌≡◌, Option, None, Some}
use Rattle.std.proofs.Math.Bool.{true, false}
use Rattle.std.proofs.Common.{arith}
use Rattle.std.proofs.lemmas.Bool.{false≢true}
use Rattle.std.proofs.Math.Path.{refl}
use Rattle.arith.specs.Cases.{and_elim}
use Rattle.rules.proofs.laws.Polls.{PolledOn}
use Rattle.arith.specs.Parts.{upd, upd_same, upd_case}
use Rattle.memory.specs.declared.Task.{Task}
use Rattle.segment.specs.Segments.{is_lock, is_erase}
use Rattle.state.specs.declared.DeviceState.{DeviceState}
use Rattle.state.specs.declared.DeviceState.TheVariants.{Free, Runs, LockedFor}
use Rattle.state.specs.declared.Job.{Job}
use Rattle.state.specs.declared.SuspendedErase.{SuspendedErase}
use Rattle.rules.proofs.laws.Best.{ready_plain, NotBelow, Ready, best_ready}
use Rattle.rules.proofs.laws.BestAbove.{best_not_below}
use Rattle.rules.proofs.laws.Laws.{Laws}
use Rattle.rules.specs.Layout.{Layout}
use Rattle.rules.specs.Machine as Machine
use Rattle.rules.specs.Machine.{Core, doing, set_state, set_both, set_device, is_pending, need, ended, none, wait_behind, displaces, erase_or, erase_or_choice, start_over}
use Rattle.rules.specs.Machine.{ready, Choice, best, start_job, start_choice, start_on, start_device, second_half}
use Rattle.rules.proofs.laws.Reachable.{Running, Suspending, Reachable}
use Rattle.rules.proofs.laws.Suspends.{Busy, Served, Started, start_no_worse, second_turn, start_none, unpicked, start_device_lem, erase_resumes, erase_goes_on, starts_over, suspends_it}
use Rattle.rules.proofs.laws.Turns.{state_no_worse, ended_follows, both_passes}

module _ (p : Layout) (admits : ℕ → Task → Bool) (L : Laws p admits) (n : ℕ) (h : n < p.devices) (c : Core) (r : Reachable p admits c)
    (served : Served p n c) (polled : (d : ℕ) → n ≤ d → d < p.devices → PolledOn (c.devices d).state) where
  module _ (b : ℕ) (e : (c.devices n).state ≡ Free) (none_kept : (c.devices n).suspended ≡ None) (chosen : ready p c n b ≡ true)
      (above : (a : ℕ) → a < p.areas → ready p c n a ≡ true → (b ≡ a → ⊥) → p.outranks b a ≡ true) where
    -- area b is pending and needs device n
    waits : (is_pending (c.jobs b) ≡ true) × (need p b (c.jobs b) ≡ n)
    waits = (ready_plain p c n b).0 chosen

    -- "A piece becomes the running request with 0 polls."
    start_run : is_lock (c.jobs b).task.kind ≡ false → Started p admits p.devices (suc n) c (set_state n (Runs b 0) c)
    start_run k =
        start_device_lem p admits L n h c r served polled (doing (Runs b 0) (c.devices n)) tt
        (record {
          state = record { pending = waits.0; no_lock = k; needed = waits.1; few = L.limit_some n h };
          suspended = (r.devices n).suspended;
          apart = rw none_kept tt;
        })
        (λ a i g. state_no_worse p a (p.limit n) 0 0 (c.devices n) (Runs b 0)
        (rw (e, none_kept) (start_no_worse p (p.limit n) (p.limit n) a b (above a (r.jobs a i).known ((ready_plain p c n a).1 (i, g))) (λ _. refl))))

    -- "A lock request locks the device for that area and ends with 0."
    start_lock : Started p admits p.devices (suc n) c (set_both b (ended 0 (c.jobs b)) n (LockedFor b) c)
    start_lock =
        record {
          passes = both_passes p admits (second_turn p admits L n h c r served polled) c r (doing (LockedFor b) (c.devices n)) b k waits.1
              (record { state = tt; suspended = rw none_kept tt; apart = tt })
              (rw (upd_same c.jobs b k) (ended_follows p admits b (c.jobs b) k _ _ _ _ refl refl))
              (λ a _. state_no_worse p a (p.limit n) 0 0 (c.devices n) (LockedFor b) (rw e (record { left = omega arith; runs = λ i. i })));
          served = λ a. upd_case (λ j. is_pending j ≡ true → need p a j < suc n → Busy (upd c.devices n (doing (LockedFor b) (c.devices n)) (need p a j)).state)
              c.jobs b a k
              (λ _ i. absurd (false≢true i))
              (λ _ i l. upd_case (λ x. Busy x.state) c.devices n (need p a (c.jobs a)) (doing (LockedFor b) (c.devices n)) (λ _. tt) (λ f. served a i (omega arith)));
          polled = unpicked p admits L n h c r served polled (doing (LockedFor b) (c.devices n));
        }
      where
        k : Job
        k = ended 0 (c.jobs b)

  -- device n picks, if it is free
  pub starts : Started p admits p.devices (suc n) c (start_device p n c)
  unfolding start_device
  starts = go (c.devices n).state (c.devices n).suspended refl refl
    where
      choose : (c.devices n).state ≡ Free → (c.devices n).suspended ≡ None → (x : Choice) → Ready p c n x → ((a : ℕ) → a < p.areas → ready p c n a ≡ true → NotBelow p x a) →
          Started p admits p.devices (suc n) c (start_choice n x c)
      choose e u Machine.nobody i k = start_none p admits L n h c r served polled (λ a j g. absurd (k a (r.jobs a j).known ((ready_plain p c n a).1 (j, g))))
      choose e u (Machine.area b) i k = lock (is_lock (c.jobs b).task.kind) refl
        where
          lock : (t : Bool) → is_lock (c.jobs b).task.kind ≡ t → Started p admits p.devices (suc n) c (start_job n b t c)
          lock true g = start_lock b e u i k
          lock false g = start_run b e u i k g

      -- an erase, suspended or running, and the choice
      erase : (b q : ℕ) → Suspending p n b q (c.jobs b) → Started p admits p.devices (suc n) c (set_device n (Runs b q) None c) →
          ((a : ℕ) → (is_pending (c.jobs a) ≡ true) × (need p a (c.jobs a) ≡ n) → displaces (c.jobs a).task.kind ≡ true →
          ((i : ℕ) → i < p.areas → ready p c n i ≡ true → (a ≡ i → ⊥) → p.outranks a i ≡ true) →
          Started p admits p.devices (suc n) c (set_device n (Runs a 0) (Some (record { area = b; polls = q })) c)) →
          (x : Choice) → Ready p c n x → ((a : ℕ) → a < p.areas → ready p c n a ≡ true → NotBelow p x a) →
          Started p admits p.devices (suc n) c (erase_or_choice n b q x c)
      erase b q f goes over Machine.nobody i k = goes
      erase b q f goes over (Machine.area a) i k = test (displaces (c.jobs a).task.kind) refl
        where
          test : (t : Bool) → displaces (c.jobs a).task.kind ≡ t → Started p admits p.devices (suc n) c (erase_or n b q a t c)
          test true g = over a ((ready_plain p c n a).0 i) g k
          test false g = goes

      choice : Choice
      choice = best p c n p.areas

      is_ready : Ready p c n choice
      is_ready = best_ready p c n p.areas

      not_below : (a : ℕ) → a < p.areas → ready p c n a ≡ true → NotBelow p choice a
      not_below = best_not_below p admits L c n p.areas

      over : (b q : ℕ) → (c.devices n).state ≡ Runs b q → (c.devices n).suspended ≡ None → (t : Bool) →
          (p.suspends n && is_erase (c.jobs b).task.kind) ≡ t → Started p admits p.devices (suc n) c (start_over p n b q t c)
      over b q e u true g =
          let both = and_elim (p.suspends n) (is_erase (c.jobs b).task.kind) g in
          let run : Running p n b q (c.jobs b) = rw e at (r.devices n).state in
          let some : 1 ≤ q = rw e at (polled n (omega arith) h) in
          let f : Suspending p n b q (c.jobs b)
          = record { pending = run.pending; erases = both.1; needed = run.needed; few = run.few; polled = some; can = both.0 } in
          erase b q f (erase_goes_on p admits L n h c r served polled b q f e u) (λ a w d k. suspends_it p admits L n h c r served polled b q f a w d k e u) choice is_ready not_below
      over b q e u false g = start_none p admits L n h c r served polled (λ a i k. rw e tt)

      go : (x : DeviceState) (s : Option SuspendedErase) → (c.devices n).state ≡ x → (c.devices n).suspended ≡ s →
          Started p admits p.devices (suc n) c (start_on p n x s c)
      go Free None e u = choose e u choice is_ready not_below
      go Free (Some s) e u =
          let f : Suspending p n s.area s.polls (c.jobs s.area) = rw u at (r.devices n).suspended in
          erase s.area s.polls f (erase_resumes p admits L n h c r served polled s.area s.polls f e u) (λ a w d k. starts_over p admits L n h c r served polled s.area s.polls f a w d k e u) choice is_ready not_below
      go (LockedFor b) s e u = start_none p admits L n h c r served polled (λ a i k. rw e tt)
      go (Runs b q) None e u = over b q e u (p.suspends n && is_erase (c.jobs b).task.kind) refl
      go (Runs b q) (Some s) e u = start_none p admits L n h c r served polled (λ i j l. rw e tt)
