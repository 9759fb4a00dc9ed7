-- What own and below can still grow by until a job's end. No answer, start or call makes it more, and a close that counts one
-- of the two takes one of it.
use Rattle.std.specs.Prelude.{ℕ, ◌+◌, ◌-◌, ◌*◌, ◌≤◌, Bool, true, false, ◌≡◌, refl, ltb, eqb, Option, None, Some}
use Rattle.std.proofs.Common.{arith, eqb-true}
use Rattle.std.proofs.lemmas.Bool.{eqb-false}
use Rattle.arith.specs.Cases.{pick, by_bool}
use Rattle.segment.specs.Segments.{is_lock, segments_from, spans_after, own_sum, below_sum}
use Rattle.state.specs.declared.Device.{Device}
use Rattle.state.specs.declared.DeviceState.{DeviceState}
use Rattle.state.specs.declared.DeviceState.TheVariants.{Free, Runs, LockedFor}
use Rattle.state.specs.declared.Job.{Job}
use Rattle.state.specs.declared.SuspendedErase.{SuspendedErase}
use Rattle.rules.specs.Layout.{Layout, most_below}
use Rattle.rules.specs.Machine.{is_pending, due, need, Wait, own, above, below, locked, none, wait_behind, wait_on, kept_for}

-- a number of rounds for each of the two
pub record Left : Type 0 where
  pub own : ℕ
  pub below : ℕ

-- in both
pub record AtMost (u v : Left) : Type 0 where
  pub own : u.own ≤ v.own
  pub below : u.below ≤ v.below

-- how many answers of device d come before the next close, in a round in which the devices below n have given theirs
abbrev pub to_come : ℕ → ℕ → ℕ
to_come n d = pick (ltb d n) 0 1

-- how many closes the request on a device can still see, with t answers to come before the next one
abbrev pub closes_on : ℕ → ℕ → DeviceState → ℕ
closes_on t limit Free = 0
closes_on t limit (LockedFor a) = 0
closes_on t limit (Runs a polls) = limit - (polls + t)

-- what the try that is due, or runs, can add to own, and the lower request that runs on its device to below
abbrev pub due_left : Wait → ℕ → ℕ → Left
due_left own closes limit = record { own = closes; below = 0 }
due_left above closes limit = record { own = limit; below = 0 }
due_left below closes limit = record { own = limit; below = closes }
due_left locked closes limit = record { own = limit; below = 0 }
due_left none closes limit = record { own = limit; below = 0 }

-- how many closes a suspended erase can still see, once it has resumed
abbrev pub kept_closes : ℕ → Option SuspendedErase → ℕ
kept_closes limit None = 0
kept_closes limit (Some s) = limit - s.polls

-- what the try that is due can add to own where it does not run: a suspended one keeps its polls
abbrev pub try_left : ℕ → ℕ → Option SuspendedErase → ℕ
try_left a limit s = pick (kept_for a s) (kept_closes limit s) limit

abbrev pub if_below : Wait → ℕ → ℕ
if_below below n = n
if_below own n = 0
if_below above n = 0
if_below locked n = 0
if_below none n = 0

-- what a suspended erase of a lower area can add to below
abbrev pub low_left : Layout → ℕ → ℕ → Option SuspendedErase → ℕ
low_left p a limit None = 0
low_left p a limit (Some s) = if_below (wait_behind p a s.area) (limit - s.polls)

-- the limit of the device that a job needs
abbrev pub limit_of : Layout → ℕ → Job → ℕ
limit_of p a j = p.limit (need p a j)

-- what the retries and the segments behind the due one can add, and the spans behind the one in work
unfoldable pub later_left : Layout → ℕ → Job → Left
later_left p a j =
    let later = segments_from (p.segment a j.task) j.task (j.processed + (due p a j).length) in
    record {
      own = limit_of p a j * j.retries_left + own_sum p.limit later;
      below = below_sum (most_below p) (spans_after (need p a j) later);
    }

-- Tests: is the job pending? Is it a lock request, which has one span and no segment?
abbrev pub left_by : Bool → Bool → Left → Left → Left
left_by false l u v = record { own = 0; below = 0 }
left_by true l u v = record { own = pick l 0 (u.own + v.own); below = u.below + pick l 0 v.below }

-- for area a, where the device is in state x
abbrev pub due_left_on : Layout → ℕ → ℕ → ℕ → Device → Left
due_left_on p t a limit x =
    let u = due_left (wait_on p a x.state) (closes_on t limit x.state) (try_left a limit x.suspended) in
    record { own = u.own; below = u.below + low_left p a limit x.suspended }

-- what is left of area a's job, from the state x of the device that it needs
unfoldable pub left_of : Layout → ℕ → ℕ → Job → Device → Left
left_of p t a j x = left_by (is_pending j) (is_lock j.task.kind) (due_left_on p t a (limit_of p a j) x) (later_left p a j)

-- the wait of area a where area b's request runs is own, above or below
pub by_behind : (P : Wait → Type 0) (p : Layout) (a b : ℕ) → (b ≡ a → P own) →
    ((b ≡ a → ⊥) → p.outranks b a ≡ true → P above) → ((b ≡ a → ⊥) → p.outranks b a ≡ false → P below) → P (wait_behind p a b)
unfolding wait_behind
by_behind P p a b f g h = go (eqb b a) (p.outranks b a) refl refl
  where
    go : (s t : Bool) → eqb b a ≡ s → p.outranks b a ≡ t → P (pick s own (pick t above below))
    go true t e r = f (eqb-true b a e)
    go false true e r = g (eqb-false b a e) r
    go false false e r = h (eqb-false b a e) r

-- with fewer closes to see no more is left
pub fewer_closes : (w : Wait) (m n limit : ℕ) → m ≤ n → AtMost (due_left w m limit) (due_left w n limit)
fewer_closes own m n limit h = omega arith
fewer_closes above m n limit h = omega arith
fewer_closes below m n limit h = omega arith
fewer_closes locked m n limit h = omega arith
fewer_closes none m n limit h = omega arith

-- the try that is due adds at most the limit to own, and what runs at most its closes to below
pub due_most : (p : Layout) (t a limit : ℕ) (x : Device) →
    AtMost (due_left_on p t a limit x) (record { own = limit; below = closes_on t limit x.state + low_left p a limit x.suspended })
due_most p t a limit x =
    let h = by_wait (wait_on p a x.state) (closes_on t limit x.state) (try_left a limit x.suspended) (closes x.state) (try_few x.suspended) in
    omega (arith, h)
  where
    by_wait : (w : Wait) (n m : ℕ) → n ≤ limit → m ≤ limit → AtMost (due_left w n m) (record { own = limit; below = n })
    by_wait own n m h k = omega arith
    by_wait above n m h k = omega arith
    by_wait below n m h k = omega arith
    by_wait locked n m h k = omega arith
    by_wait none n m h k = omega arith

    kept_few : (s : Option SuspendedErase) → kept_closes limit s ≤ limit
    kept_few None = omega arith
    kept_few (Some s) = omega arith

    try_few : (s : Option SuspendedErase) → try_left a limit s ≤ limit
    try_few s = let h = kept_few s in by_bool (kept_for a s) (λ e. rw e h) (λ e. rw e (omega arith))

    closes : (x : DeviceState) → closes_on t limit x ≤ limit
    closes Free = omega arith
    closes (LockedFor a) = omega arith
    closes (Runs a q) = omega arith

-- a job whose due try has no more left has no more left
left_mono : (s l : Bool) (u v w : Left) → AtMost u v → AtMost (left_by s l u w) (left_by s l v w)
left_mono false l u v w h = omega arith
left_mono true true u v w h = omega arith
left_mono true false u v w h = omega arith

-- no job has more left than its due try and what comes later
left_sum : (s l : Bool) (u v : Left) → AtMost (left_by s l u v) (record { own = u.own + v.own; below = u.below + v.below })
left_sum false l u v = omega arith
left_sum true true u v = omega arith
left_sum true false u v = omega arith

module _ (p : Layout) (a : ℕ) (j : Job) where
  -- a change on the device it needs that leaves the due try no more leaves the job no more
  pub due_falls : (t u : ℕ) (x y : Device) →
      AtMost (due_left_on p u a (limit_of p a j) y) (due_left_on p t a (limit_of p a j) x) → AtMost (left_of p u a j y) (left_of p t a j x)
  unfolding left_of
  due_falls t u x y h = left_mono (is_pending j) (is_lock j.task.kind) _ _ (later_left p a j) h

  -- a job that is over has nothing left
  pub left_idle : (t : ℕ) (x : Device) → is_pending j ≡ false → left_of p t a j x ≡ record { own = 0; below = 0 }
  unfolding left_of
  left_idle t x h = rw h

  -- a job has at most a whole try left, the closes of what runs, and what comes later
  pub left_most : (t : ℕ) (x : Device) → AtMost (left_of p t a j x)
      (record { own = limit_of p a j + (later_left p a j).own; below = closes_on t (limit_of p a j) x.state + low_left p a (limit_of p a j) x.suspended + (later_left p a j).below })
  unfolding left_of
  left_most t x =
      let most = due_most p t a (limit_of p a j) x in
      omega (arith, left_sum (is_pending j) (is_lock j.task.kind) (due_left_on p t a (limit_of p a j) x) (later_left p a j))

  -- a pending job that is no lock request has at least left what comes later, and what a lower suspended erase takes
  pub later_left_lem : (t : ℕ) (x : Device) → is_pending j ≡ true → is_lock j.task.kind ≡ false →
      AtMost (record { own = (later_left p a j).own; below = low_left p a (limit_of p a j) x.suspended + (later_left p a j).below }) (left_of p t a j x)
  unfolding left_of
  later_left_lem t x h k = rw (h, k) (omega arith)
