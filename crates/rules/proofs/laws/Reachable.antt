-- What holds of every state that calls lead to, and what a part of a call leaves of it.
use Rattle.std.specs.Prelude.{ℕ, ◌≤◌, ◌<◌, Bool, true, false, ◌≡◌, Option, None, Some}
use Rattle.std.proofs.Common.{◌∙◌, arith}
use Rattle.memory.specs.declared.Task.{Task}
use Rattle.segment.specs.Segments.{is_lock, is_erase}
use Rattle.state.specs.declared.Device.{Device}
use Rattle.state.specs.declared.DeviceState.{DeviceState}
use Rattle.state.specs.declared.DeviceState.TheVariants.{Free, Runs, LockedFor}
use Rattle.state.specs.declared.Job.{Job}
use Rattle.state.specs.declared.SuspendedErase.{SuspendedErase}
use Rattle.rules.proofs.laws.Laws.{Laws}
use Rattle.rules.specs.Layout.{Layout}
use Rattle.rules.specs.Machine.{Core, is_cancelling, is_pending, due, need, holds}
use Rattle.rules.proofs.laws.Potential.{Left, AtMost, to_come, left_of}

-- Device d runs area a, whose job is j. (No two devices run one area: both would be the device that it needs.)
pub record Running (p : Layout) (d a polls : ℕ) (j : Job) : Type 0 where
  pub pending : is_pending j ≡ true
  pub no_lock : is_lock j.task.kind ≡ false
  pub needed : need p a j ≡ d
  pub few : polls < p.limit d

-- Device d keeps area a's erase suspended.
pub record Suspending (p : Layout) (d a polls : ℕ) (j : Job) : Type 0 where
  pub pending : is_pending j ≡ true
  pub erases : is_erase j.task.kind ≡ true
  pub needed : need p a j ≡ d
  pub few : polls < p.limit d
  -- it took an answer before it gave way
  pub polled : 1 ≤ polls
  pub can : p.suspends d ≡ true

-- a device runs only what fits there
abbrev pub StateFits : Layout → (ℕ → Job) → ℕ → DeviceState → Type 0
StateFits p jobs d Free = Unit {0}
StateFits p jobs d (LockedFor a) = Unit {0}
StateFits p jobs d (Runs a polls) = Running p d a polls (jobs a)

-- and keeps only what fits there
abbrev pub SuspendedFits : Layout → (ℕ → Job) → ℕ → Option SuspendedErase → Type 0
SuspendedFits p jobs d None = Unit {0}
SuspendedFits p jobs d (Some s) = Suspending p d s.area s.polls (jobs s.area)

-- what runs is not what is suspended
abbrev pub Apart : DeviceState → Option SuspendedErase → Type 0
Apart Free s = Unit {0}
Apart (LockedFor a) s = Unit {0}
Apart (Runs a polls) None = Unit {0}
Apart (Runs a polls) (Some s) = a ≡ s.area → ⊥

pub record DeviceFits (p : Layout) (jobs : ℕ → Job) (d : ℕ) (x : Device) : Type 0 where
  pub state : StateFits p jobs d x.state
  pub suspended : SuspendedFits p jobs d x.suspended
  pub apart : Apart x.state x.suspended

-- area a's job j is pending
pub record JobFits (p : Layout) (admits : ℕ → Task → Bool) (a : ℕ) (j : Job) : Type 0 where
  pub known : a < p.areas
  pub admitted : admits a j.task ≡ true
  pub more : j.processed < j.task.length
  pub retries : j.retries_left ≤ (due p a j).retries

-- the states that calls lead to are of this kind
pub record Reachable (p : Layout) (admits : ℕ → Task → Bool) (c : Core) : Type 0 where
  pub devices : (d : ℕ) → DeviceFits p c.jobs d (c.devices d)
  pub jobs : (a : ℕ) → is_pending (c.jobs a) ≡ true → JobFits p admits a (c.jobs a)
  -- the request of a cancelled job runs, or is suspended
  pub cancelled : (a : ℕ) → is_cancelling (c.jobs a).status ≡ true → holds a (c.devices (need p a (c.jobs a))) ≡ true

-- the device that a pending job needs is known
pub need_known : {p : Layout} {admits : ℕ → Task → Bool} {a : ℕ} {j : Job} → Laws p admits → JobFits p admits a j → need p a j < p.devices
need_known {a} {j} L f = L.segment_device a j.task j.processed f.known f.admitted f.more

-- what is left of area a's job in a round in which the devices below n have given their answers
abbrev pub left_at : Layout → ℕ → Core → ℕ → Left
left_at p n c a = left_of p (to_come n (need p a (c.jobs a))) a (c.jobs a) (c.devices (need p a (c.jobs a)))

-- What a part of a call leaves of area a: job j, the state x of the device that it needs, and t answers to come become k, y and u.
pub record Follows (p : Layout) (admits : ℕ → Task → Bool) (a t u : ℕ) (j k : Job) (x y : Device) : Type 0 where
  pub left : AtMost (left_of p u a k y) (left_of p t a j x)
  pub task : k.task ≡ j.task
  pub pending : is_pending k ≡ true → is_pending j ≡ true
  pub fits : JobFits p admits a j → is_pending k ≡ true → JobFits p admits a k
  pub cancelled : (is_cancelling j.status ≡ true → holds a x ≡ true) → is_cancelling k.status ≡ true → holds a y ≡ true

-- from core c, where the devices below n have given this round's answer, to core e, where those below m have
abbrev pub FollowsAt : Layout → (ℕ → Task → Bool) → ℕ → ℕ → Core → Core → ℕ → Type 0
FollowsAt p admits n m c e a =
    Follows p admits a (to_come n (need p a (c.jobs a))) (to_come m (need p a (e.jobs a))) (c.jobs a) (e.jobs a)
    (c.devices (need p a (c.jobs a))) (e.devices (need p a (e.jobs a)))

-- a part of a call leads from core c to core e
pub record Passes (p : Layout) (admits : ℕ → Task → Bool) (n m : ℕ) (c e : Core) : Type 0 where
  pub devices : (d : ℕ) → DeviceFits p e.jobs d (e.devices d)
  pub areas : (a : ℕ) → FollowsAt p admits n m c e a

-- a state that is passed to is reachable
pub passed : {p : Layout} {admits : ℕ → Task → Bool} {n m : ℕ} {c e : Core} → Reachable p admits c → Passes p admits n m c e → Reachable p admits e
passed r s =
    record {
      devices = s.devices;
      jobs = λ a h. (s.areas a).fits (r.jobs a ((s.areas a).pending h)) h;
      cancelled = λ a. (s.areas a).cancelled (r.cancelled a);
    }

-- one part after another
pub passes_on : {p : Layout} {admits : ℕ → Task → Bool} {n m l : ℕ} {c e f : Core} →
    Passes p admits n m c e → Passes p admits m l e f → Passes p admits n l c f
passes_on r s =
    record {
      devices = s.devices;
      areas = λ a.
          let f = r.areas a in
          let g = s.areas a in
          record {
            left = let h = f.left in let k = g.left in omega arith;
            task = g.task ∙ f.task;
            pending = λ h. f.pending (g.pending h);
            fits = λ i h. g.fits (f.fits i (g.pending h)) h;
            cancelled = λ i. g.cancelled (f.cancelled i);
          };
    }
