-- What a device does at its turn, in either half of a round or in a call.
use Rattle.std.specs.Prelude.{ℕ, ◌≤◌, Bool, true, false, ◌≡◌, refl, Option, None, Some}
use Rattle.std.proofs.Common.{true≢false, sym, ap, subst, ◌∙◌, le_refl, arith}
use Rattle.arith.specs.Cases.{by_bool, by_eqb, or_left, or_right, or_elim}
use Rattle.arith.specs.Parts.{upd, upd_same, upd_other, upd_case, same_or}
use Rattle.memory.specs.declared.JobStatus.{JobStatus}
use Rattle.memory.specs.declared.JobStatus.TheVariants.{Idle, Pending, Cancelling}
use Rattle.memory.specs.declared.Task.{Task}
use Rattle.state.specs.declared.Device.{Device}
use Rattle.state.specs.declared.DeviceState.{DeviceState}
use Rattle.state.specs.declared.DeviceState.TheVariants.{Free, Runs, LockedFor}
use Rattle.state.specs.declared.Job.{Job}
use Rattle.state.specs.declared.SuspendedErase.{SuspendedErase}
use Rattle.rules.specs.Layout.{Layout}
use Rattle.rules.specs.Machine.{Core, doing, is_pending_status, is_cancelling, is_pending, need, Wait, own, above, below, locked, none, wait_behind, wait_on, runs_for, kept_for, holds}
use Rattle.rules.proofs.laws.Potential.{AtMost, to_come, closes_on, due_left, due_left_on, try_left, limit_of, fewer_closes, due_falls, left_idle}
use Rattle.rules.proofs.laws.Reachable.{Running, Suspending, StateFits, SuspendedFits, DeviceFits, Reachable, Follows, FollowsAt, Passes}

abbrev is_own : Wait → Bool
is_own own = true
is_own above = false
is_own below = false
is_own locked = false
is_own none = false

-- A change on the device that an area needs, where wait w with m closes to see becomes v with n: it leaves the due try no
-- more, and the area's own request runs on.
pub record NoWorse (limit : ℕ) (w v : Wait) (m n : ℕ) : Type 0 where
  pub left : AtMost (due_left v n limit) (due_left w m limit)
  pub runs : is_own w ≡ true → is_own v ≡ true

-- for area a, where the device changes from x to y, and t answers to come become u; a request that it holds is still held
pub record NoWorseOn (p : Layout) (a limit t u : ℕ) (x y : Device) : Type 0 where
  pub left : AtMost (due_left_on p u a limit y) (due_left_on p t a limit x)
  pub held : holds a x ≡ true → holds a y ≡ true

-- whether a wait is own does not depend on ranks
pub own_runs : (p : Layout) (a : ℕ) (x : DeviceState) → is_own (wait_on p a x) ≡ runs_for a x
unfolding wait_behind
own_runs p a Free = refl
own_runs p a (LockedFor b) = refl
own_runs p a (Runs b q) = by_eqb b a (λ e _. rw e) (λ e _. rw e (by_bool (p.outranks b a) (λ f. rw f) (λ f. rw f)))

-- where what is suspended stays, the state alone counts
pub state_no_worse : (p : Layout) (a limit t u : ℕ) (x : Device) (y : DeviceState) →
    NoWorse (try_left a limit x.suspended) (wait_on p a x.state) (wait_on p a y) (closes_on t limit x.state) (closes_on u limit y) →
    NoWorseOn p a limit t u x (doing y x)
state_no_worse p a limit t u x y i =
    record {
      left = let h = i.left in omega (arith, h);
      held = λ h. or_elim (runs_for a x.state) (kept_for a x.suspended) h
          (λ e. or_left (runs_for a y) (kept_for a x.suspended) (sym (own_runs p a y) ∙ i.runs (own_runs p a x.state ∙ e)))
          (or_right (runs_for a y) (kept_for a x.suspended));
    }

-- nothing changes, or what is to come becomes less
pub device_no_worse : (p : Layout) (a limit t u : ℕ) (x : Device) → closes_on u limit x.state ≤ closes_on t limit x.state →
    NoWorseOn p a limit t u x x
device_no_worse p a limit t u x h =
    record { left = let i = fewer_closes (wait_on p a x.state) _ _ (try_left a limit x.suspended) h in omega (arith, i); held = λ i. i }

-- the same wait with no more closes to see
pub same_no_worse : (limit : ℕ) (w : Wait) (m n : ℕ) → n ≤ m → NoWorse limit w w m n
same_no_worse limit w m n h = record { left = fewer_closes w n m limit h; runs = λ i. i }

-- a cancelled job whose request runs is pending
cancelling_pending : (s : JobStatus) → is_cancelling s ≡ true → is_pending_status s ≡ true
cancelling_pending Idle e = e
cancelling_pending Pending e = refl
cancelling_pending Cancelling e = refl

module _ (p : Layout) (admits : ℕ → Task → Bool) where
  -- a job that stays, where the device that it needs comes to no worse a state
  job_follows : (a : ℕ) (j : Job) (t u : ℕ) (x y : Device) → NoWorseOn p a (limit_of p a j) t u x y → Follows p admits a t u j j x y
  job_follows a j t u x y i =
      record { left = due_falls p a j t u x y i.left; task = refl; pending = λ h. h; fits = λ f _. f; cancelled = λ f h. i.held (f h) }

  -- a job that is over
  pub ended_follows : (a : ℕ) (j k : Job) (t u : ℕ) (x y : Device) → k.task ≡ j.task → is_pending k ≡ false → Follows p admits a t u j k x y
  ended_follows a j k t u x y e h =
      record {
        left = rw (left_idle p a k u y h) (omega arith);
        task = e;
        pending = λ i. absurd (true≢false (sym i ∙ h));
        fits = λ _ i. absurd (true≢false (sym i ∙ h));
        cancelled = λ _ i. absurd (true≢false (sym (cancelling_pending k.status i) ∙ h));
      }

  -- a job that stays, with its device
  pub same_follows : (a : ℕ) (j : Job) (t : ℕ) (x : Device) → Follows p admits a t t j j x x
  same_follows a j t x = job_follows a j t t x x (device_no_worse p a _ t t x (le_refl _))

  -- the same core
  pub same_passes : (n : ℕ) (c : Core) → Reachable p admits c → Passes p admits n n c c
  same_passes n c r = record { devices = r.devices; areas = λ a. same_follows a (c.jobs a) _ _ }

-- Area b's job becomes k: a device fits as before if it does not run b or keep it suspended, or still can.
state_keeps : (p : Layout) (jobs : ℕ → Job) (b : ℕ) (k : Job) (d : ℕ) (x : DeviceState) →
    ((q : ℕ) → x ≡ Runs b q → Running p d b q (jobs b) → Running p d b q k) → StateFits p jobs d x → StateFits p (upd jobs b k) d x
state_keeps p jobs b k d Free f h = tt
state_keeps p jobs b k d (LockedFor a) f h = tt
state_keeps p jobs b k d (Runs a q) f h =
    upd_case (Running p d a q) jobs b a k
    (λ e. subst (λ i. Running p d i q k) e (f q (ap (λ i. Runs i q) (sym e)) (subst (λ i. Running p d i q (jobs i)) (sym e) h)))
    (λ _. h)

pub suspended_keeps : (p : Layout) (jobs : ℕ → Job) (b : ℕ) (k : Job) (d : ℕ) (x : Option SuspendedErase) →
    ((q : ℕ) → x ≡ Some (record { area = b; polls = q }) → Suspending p d b q (jobs b) → Suspending p d b q k) → SuspendedFits p jobs d x → SuspendedFits p (upd jobs b k) d x
suspended_keeps p jobs b k d None f h = tt
suspended_keeps p jobs b k d (Some s) f h =
    upd_case (Suspending p d s.area s.polls) jobs b s.area k
    (λ e. subst (λ i. Suspending p d i s.polls k) e (f s.polls (ap (λ i. Some (record { area = i; polls = s.polls })) (sym e)) (subst (λ i. Suspending p d i s.polls (jobs i)) (sym e) h)))
    (λ _. h)

pub device_keeps : (p : Layout) (jobs : ℕ → Job) (b : ℕ) (k : Job) (d : ℕ) (x : Device) →
    ((q : ℕ) → x.state ≡ Runs b q → Running p d b q (jobs b) → Running p d b q k) →
    ((q : ℕ) → x.suspended ≡ Some (record { area = b; polls = q }) → Suspending p d b q (jobs b) → Suspending p d b q k) →
    DeviceFits p jobs d x → DeviceFits p (upd jobs b k) d x
device_keeps p jobs b k d x f g h =
    record {
      state = state_keeps p jobs b k d x.state f h.state;
      suspended = suspended_keeps p jobs b k d x.suspended g h.suspended;
      apart = h.apart;
    }

-- Device d's turn: the devices below n had given this round's answer, and those below m have. Of device d, t answers were to
-- come before the next close, and u are; of the others as many as before.
pub record Turn (n m d t u : ℕ) : Type 0 where
  pub before : to_come n d ≡ t
  pub after : to_come m d ≡ u
  pub others : (k : ℕ) → (d ≡ k → ⊥) → to_come m k ≡ to_come n k

module _ (p : Layout) (admits : ℕ → Task → Bool) {n m d t u : ℕ} (turn : Turn n m d t u) (c : Core) (r : Reachable p admits c) where
  -- the device before
  abbrev x : Device
  x = c.devices d

  -- an area whose job stays, where device d alone changes
  area_follows : (f : Core) (y : Device) → f.devices d ≡ y → ((k : ℕ) → (d ≡ k → ⊥) → f.devices k ≡ c.devices k) →
      (a : ℕ) → f.jobs a ≡ c.jobs a → (is_pending (c.jobs a) ≡ true → need p a (c.jobs a) ≡ d → NoWorseOn p a (p.limit d) t u x y) →
      FollowsAt p admits n m c f a
  area_follows f y g others a s i =
      rw s
      (by_bool (is_pending (c.jobs a))
      (λ h. job_follows p admits a (c.jobs a) _ _ _ _ (change h (need p a (c.jobs a)) refl))
      (λ h. ended_follows p admits a (c.jobs a) (c.jobs a) _ _ _ _ refl h))
    where
      change : is_pending (c.jobs a) ≡ true → (k : ℕ) → need p a (c.jobs a) ≡ k →
          NoWorseOn p a (p.limit k) (to_come n k) (to_come m k) (c.devices k) (f.devices k)
      change h k =
          same_or (λ k. need p a (c.jobs a) ≡ k → NoWorseOn p a (p.limit k) (to_come n k) (to_come m k) (c.devices k) (f.devices k)) d k
          (λ l. rw (turn.before, turn.after, g) (i h l))
          (λ l _. rw (others k l, turn.others k l) (device_no_worse p a (p.limit k) _ _ _ (le_refl _)))

  -- nothing changes but the answers to come
  pub none_passes : ((a : ℕ) → NoWorseOn p a (p.limit d) t u x x) → Passes p admits n m c c
  none_passes i = record { devices = r.devices; areas = λ a. area_follows c x refl (λ _ _. refl) a refl (λ _ _. i a) }

  module _ (y : Device) where
    -- if the device fits in state y, and the others fit as they are, all fit
    devices_fit : (jobs : ℕ → Job) → DeviceFits p jobs d y → ((k : ℕ) → (d ≡ k → ⊥) → DeviceFits p jobs k (c.devices k)) →
        (k : ℕ) → DeviceFits p jobs k (upd c.devices d y k)
    devices_fit jobs f g k =
        same_or (λ k. DeviceFits p jobs k (upd c.devices d y k)) d k
        (rw (upd_same c.devices d y) f)
        (λ h. rw (upd_other c.devices d k y h) (g k h))

    -- an area whose job stays
    others_follow : (jobs : ℕ → Job) (a : ℕ) → jobs a ≡ c.jobs a →
        (is_pending (c.jobs a) ≡ true → need p a (c.jobs a) ≡ d → NoWorseOn p a (p.limit d) t u x y) →
        FollowsAt p admits n m c (record { jobs = jobs; devices = upd c.devices d y }) a
    others_follow jobs =
        area_follows (record { jobs = jobs; devices = upd c.devices d y }) y (upd_same c.devices d y) (λ k. upd_other c.devices d k y)

    -- the device comes to state y
    pub device_passes : DeviceFits p c.jobs d y →
        ((a : ℕ) → is_pending (c.jobs a) ≡ true → need p a (c.jobs a) ≡ d → NoWorseOn p a (p.limit d) t u x y) →
        Passes p admits n m c (record { jobs = c.jobs; devices = upd c.devices d y })
    device_passes f i =
        record { devices = devices_fit c.jobs f (λ k _. r.devices k); areas = λ a. others_follow c.jobs a refl (i a) }

    -- the device comes to state y, and the job of area b, which needs it, becomes k
    pub both_passes : (b : ℕ) (k : Job) → need p b (c.jobs b) ≡ d → DeviceFits p (upd c.jobs b k) d y →
        FollowsAt p admits n m c (record { jobs = upd c.jobs b k; devices = upd c.devices d y }) b →
        ((a : ℕ) → (b ≡ a → ⊥) → NoWorseOn p a (p.limit d) t u x y) →
        Passes p admits n m c (record { jobs = upd c.jobs b k; devices = upd c.devices d y })
    both_passes b k h f mine i =
        record {
          devices = devices_fit (upd c.jobs b k) f
              (λ l g. device_keeps p c.jobs b k l (c.devices l) (λ _ _ q. absurd (g (sym h ∙ q.needed))) (λ _ _ q. absurd (g (sym h ∙ q.needed))) (r.devices l));
          areas = λ a. same_or (FollowsAt p admits n m c (record { jobs = upd c.jobs b k; devices = upd c.devices d y })) b a mine
              (λ g. others_follow (upd c.jobs b k) a (upd_other c.jobs b a k g) (λ _ _. i a g));
        }
