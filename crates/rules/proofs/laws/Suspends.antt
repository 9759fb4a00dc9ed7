-- A device starts a request, also over an erase that it suspends.
use Rattle.std.specs.Prelude.{ℕ, suc, ◌+◌, ◌-◌, ◌≤◌, ◌<◌, Bool, ◌≡◌, eqb, None, Some}
use Rattle.std.proofs.Math.Bool.{true, false}
use Rattle.std.proofs.Common.{true≢false, sym, ◌∙◌, arith, lt-ltb, eq-eqb, ne_eqb}
use Rattle.std.proofs.lemmas.Bool.{false≢true}
use Rattle.std.proofs.Math.Path.{refl}
use Rattle.arith.specs.Cases.{pick, or_left, or_right, or_elim}
use Rattle.memory.specs.declared.JobType.{JobType}
use Rattle.memory.specs.declared.JobType.TheVariants as Types
use Rattle.rules.proofs.laws.OverErase.{other, new}
use Rattle.rules.proofs.laws.Polls.{PolledOn}
use Rattle.arith.specs.Bounded.{below_suc}
use Rattle.arith.specs.Parts.{upd, upd_case}
use Rattle.memory.specs.declared.Task.{Task}
use Rattle.segment.specs.Segments.{is_lock, is_erase}
use Rattle.state.specs.declared.Device.{Device}
use Rattle.state.specs.declared.DeviceState.{DeviceState}
use Rattle.state.specs.declared.DeviceState.TheVariants.{Free, Runs, LockedFor}
use Rattle.rules.proofs.laws.Best.{ready_plain}
use Rattle.rules.proofs.laws.Laws.{Laws}
use Rattle.rules.specs.Layout.{Layout}
use Rattle.rules.specs.Machine.{Core, set_device, is_pending, need, none, wait_behind, displaces}
use Rattle.rules.specs.Machine.{ready}
use Rattle.rules.proofs.laws.Potential.{AtMost, due_left, if_below, by_behind}
use Rattle.rules.proofs.laws.Reachable.{Suspending, DeviceFits, Reachable, Passes}
use Rattle.rules.proofs.laws.Turns.{NoWorse, NoWorseOn, same_passes, Turn, device_passes}

-- running or locked
abbrev pub Busy : DeviceState → Type 0
Busy Free = ⊥
Busy (LockedFor a) = Unit {0}
Busy (Runs a polls) = Unit {0}

-- every pending job that needs a device below n finds it running or locked
abbrev pub Served : Layout → ℕ → Core → Type 0
Served p n c = (a : ℕ) → is_pending (c.jobs a) ≡ true → need p a (c.jobs a) < n → Busy (c.devices (need p a (c.jobs a))).state

-- from core c, where the devices below m had given this round's answer, to core e, where all have and those below n have picked
pub record Started (p : Layout) (admits : ℕ → Task → Bool) (m n : ℕ) (c e : Core) : Type 0 where
  pub passes : Passes p admits m p.devices c e
  pub served : Served p n e
  -- what runs where a device has not picked has taken an answer of this round
  pub polled : (d : ℕ) → n ≤ d → d < p.devices → PolledOn (e.devices d).state

-- a free device starts area b's request, and b ranks above any other area that waits there; b's whole try is left
pub start_no_worse : (p : Layout) (limit try a b : ℕ) → ((b ≡ a → ⊥) → p.outranks b a ≡ true) → (b ≡ a → try ≡ limit) →
    NoWorse try none (wait_behind p a b) 0 (limit - 0)
start_no_worse p limit try a b h k =
    by_behind (λ w. NoWorse try none w 0 (limit - 0)) p a b
    (λ e. let i = k e in record { left = omega arith; runs = λ _. refl })
    (λ _ _. record { left = omega arith; runs = λ i. i })
    (λ f e. absurd (true≢false (sym (h f) ∙ e)))

module _ (p : Layout) (admits : ℕ → Task → Bool) (L : Laws p admits) (n : ℕ) (h : n < p.devices) (c : Core) (r : Reachable p admits c)
    (served : Served p n c) (polled : (d : ℕ) → n ≤ d → d < p.devices → PolledOn (c.devices d).state) where
  -- all answers are in
  pub second_turn : Turn p.devices p.devices n 0 0
  second_turn = record { before = rw (lt-ltb n p.devices h); after = rw (lt-ltb n p.devices h); others = λ k _. refl }

  -- nothing starts
  pub start_none : ((a : ℕ) → is_pending (c.jobs a) ≡ true → need p a (c.jobs a) ≡ n → Busy (c.devices n).state) → Started p admits p.devices (suc n) c c
  start_none busy =
      record {
        passes = same_passes p admits p.devices c r;
        served = λ a i l. below_suc (need p a (c.jobs a)) n l (λ e. rw e (busy a i e)) (served a i);
        polled = λ d l. polled d (omega arith);
      }

  -- a device that has not picked stays
  pub unpicked : (y : Device) (d : ℕ) → suc n ≤ d → d < p.devices → PolledOn (upd c.devices n y d).state
  unpicked y d l g = upd_case (λ x. PolledOn x.state) c.devices n d y (λ e. absurd (omega arith)) (λ _. polled d (omega arith) g)

  -- the device comes to y, where a request runs, and no job changes
  pub start_device_lem : (y : Device) → Busy y.state → DeviceFits p c.jobs n y →
      ((a : ℕ) → is_pending (c.jobs a) ≡ true → need p a (c.jobs a) ≡ n → NoWorseOn p a (p.limit n) 0 0 (c.devices n) y) →
      Started p admits p.devices (suc n) c (record { jobs = c.jobs; devices = upd c.devices n y })
  start_device_lem y busy f i =
      record {
        passes = device_passes p admits second_turn c r y f i;
        served = λ a g l. upd_case (λ x. Busy x.state) c.devices n (need p a (c.jobs a)) y (λ _. busy) (λ f. served a g (omega arith));
        polled = unpicked y;
      }

  -- an erase with its polls: area b's, on device n
  module _ (b q : ℕ) (f : Suspending p n b q (c.jobs b)) where
    -- it is no lock request
    erase_no_lock : (k : JobType) → is_erase k ≡ true → is_lock k ≡ false
    erase_no_lock Types.NoJob e = refl
    erase_no_lock Types.Write e = refl
    erase_no_lock Types.Read e = refl
    erase_no_lock Types.Compare e = refl
    erase_no_lock Types.Erase e = refl
    erase_no_lock Types.BlankCheck e = refl
    erase_no_lock Types.Lock e = absurd (false≢true e)

    -- so the device can run it
    runs : DeviceFits p c.jobs n (record { state = Runs b q; suspended = None })
    runs =
        record {
          state = record { pending = f.pending; no_lock = erase_no_lock (c.jobs b).task.kind f.erases; needed = f.needed; few = f.few };
          suspended = tt;
          apart = tt;
        }

    -- where nothing runs it resumes
    pub erase_resumes : (c.devices n).state ≡ Free → (c.devices n).suspended ≡ Some (record { area = b; polls = q }) →
        Started p admits p.devices (suc n) c (set_device n (Runs b q) None c)
    erase_resumes e k =
        start_device_lem (record { state = Runs b q; suspended = None }) tt runs
        (λ a _ _. record {
          left = rw (e, k)
              (by_behind (λ w. AtMost (record { own = (due_left w (p.limit n - (q + 0)) (p.limit n)).own; below = (due_left w (p.limit n - (q + 0)) (p.limit n)).below + 0 })
              (record { own = pick (eqb b a) (p.limit n - q) (p.limit n); below = 0 + if_below w (p.limit n - q) })) p a b
              (λ g. rw (eq-eqb b a g) (omega arith))
              (λ g _. rw (ne_eqb b a g) (omega arith))
              (λ g _. rw (ne_eqb b a g) (omega arith)));
          held = rw (e, k) (λ h. or_left (eqb b a) false h);
        })

    -- where it runs, and goes on
    pub erase_goes_on : (c.devices n).state ≡ Runs b q → (c.devices n).suspended ≡ None →
        Started p admits p.devices (suc n) c (set_device n (Runs b q) None c)
    erase_goes_on e k =
        start_device_lem (record { state = Runs b q; suspended = None }) tt runs
        (λ a _ _. record { left = rw (e, k) (omega arith); held = rw (e, k) (λ h. h) })

    -- another area starts over it
    module _ (a : ℕ) (waits : (is_pending (c.jobs a) ≡ true) × (need p a (c.jobs a) ≡ n)) (d : displaces (c.jobs a).task.kind ≡ true)
        (above : (i : ℕ) → i < p.areas → ready p c n i ≡ true → (a ≡ i → ⊥) → p.outranks a i ≡ true) where
      -- it was suspended already
      pub starts_over : (c.devices n).state ≡ Free → (c.devices n).suspended ≡ Some (record { area = b; polls = q }) →
          Started p admits p.devices (suc n) c (set_device n (Runs a 0) (Some (record { area = b; polls = q })) c)
      starts_over e k =
          start_device_lem (record { state = Runs a 0; suspended = Some (record { area = b; polls = q }) }) tt (new p n c b q f a waits d (L.limit_some n h))
          (λ i g l. record {
            left =
                let o = (start_no_worse p (p.limit n) (pick (eqb b i) (p.limit n - q) (p.limit n)) i a
                (above i (r.jobs i g).known ((ready_plain p c n i).1 (g, l)))
                (λ u. rw (ne_eqb b i (λ v. other p n c b q f a d (u ∙ sym v))))).left in
                rw (e, k) (omega (arith, o));
            held = rw (e, k) (λ v. or_right (eqb a i) (eqb b i) v);
          })

      -- it runs, and is suspended
      pub suspends_it : (c.devices n).state ≡ Runs b q → (c.devices n).suspended ≡ None →
          Started p admits p.devices (suc n) c (set_device n (Runs a 0) (Some (record { area = b; polls = q })) c)
      suspends_it e k =
          start_device_lem (record { state = Runs a 0; suspended = Some (record { area = b; polls = q }) }) tt (new p n c b q f a waits d (L.limit_some n h))
          (λ i g l. record {
            left = rw (e, k) (gives i (above i (r.jobs i g).known ((ready_plain p c n i).1 (g, l))));
            held = rw (e, k) (λ v. or_right (eqb a i) (eqb b i) (or_elim (eqb b i) false v (λ z. z) (λ z. absurd (false≢true z))));
          })
        where
          limit : ℕ
          limit = p.limit n

          gives : (i : ℕ) → ((a ≡ i → ⊥) → p.outranks a i ≡ true) →
              AtMost (record {
                own = (due_left (wait_behind p i a) (limit - 0) (pick (eqb b i) (limit - q) limit)).own;
                below = (due_left (wait_behind p i a) (limit - 0) (pick (eqb b i) (limit - q) limit)).below + if_below (wait_behind p i b) (limit - q);
              }) (record { own = (due_left (wait_behind p i b) (limit - (q + 0)) limit).own; below = (due_left (wait_behind p i b) (limit - (q + 0)) limit).below + 0 })
          gives i u =
              by_behind (λ v. AtMost (record {
                own = (due_left v (limit - 0) (pick (eqb b i) (limit - q) limit)).own;
                below = (due_left v (limit - 0) (pick (eqb b i) (limit - q) limit)).below + if_below (wait_behind p i b) (limit - q);
              }) (record { own = (due_left (wait_behind p i b) (limit - (q + 0)) limit).own; below = (due_left (wait_behind p i b) (limit - (q + 0)) limit).below + 0 })) p i a
              (λ z. by_behind (λ w. AtMost (record { own = limit - 0; below = 0 + if_below w (limit - q) })
              (record { own = (due_left w (limit - (q + 0)) limit).own; below = (due_left w (limit - (q + 0)) limit).below + 0 })) p i b
              (λ y. absurd (other p n c b q f a d (z ∙ sym y))) (λ _ _. omega arith) (λ _ _. omega arith))
              (λ _ _. by_behind (λ w. AtMost (record { own = pick (eqb b i) (limit - q) limit; below = 0 + if_below w (limit - q) })
              (record { own = (due_left w (limit - (q + 0)) limit).own; below = (due_left w (limit - (q + 0)) limit).below + 0 })) p i b
              (λ y. rw (eq-eqb b i y) (omega arith)) (λ y _. rw (ne_eqb b i y) (omega arith)) (λ y _. rw (ne_eqb b i y) (omega arith)))
              (λ z y. absurd (true≢false (sym (u z) ∙ y)))
