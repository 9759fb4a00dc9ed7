-- The close of a round, and a whole round.
use Rattle.std.specs.Prelude.{ℕ, ◌+◌, ◌-◌, Bool, true, false, ◌≡◌, refl}
use Rattle.std.proofs.Common.{true≢false, sym, ◌∙◌, subst, le_refl, arith, lt-ltb, le-ltb}
use Rattle.arith.specs.Cases.{pick}
use Rattle.memory.specs.declared.Task.{Task}
use Rattle.segment.specs.Segments.{is_lock, own_bound, below_bound}
use Rattle.state.specs.declared.Device.{Device}
use Rattle.state.specs.declared.DeviceState.{DeviceState}
use Rattle.state.specs.declared.DeviceState.TheVariants.{Free, Runs, LockedFor}
use Rattle.state.specs.declared.Job.{Job}
use Rattle.rules.proofs.laws.FirstHalf.{first_half_lem}
use Rattle.rules.specs.History.{Tally, count, close}
use Rattle.rules.proofs.laws.Laws.{Laws}
use Rattle.rules.specs.Layout.{Layout, most_below}
use Rattle.rules.specs.Machine.{Core, is_pending, need, Verdict, first_half, second_half, Wait, own, above, below, locked, none, wait_on, wait_of}
use Rattle.rules.proofs.laws.Potential.{Left, AtMost, to_come, due_left, try_left, low_left, limit_of, later_left, left_by, left_of, by_behind, left_idle}
use Rattle.rules.proofs.laws.Reachable.{StateFits, DeviceFits, Reachable, left_at, FollowsAt, need_known, passed, passes_on}
use Rattle.rules.proofs.laws.AllPicked.{second_half_lem}
use Rattle.rules.proofs.laws.Suspends.{Busy, Started}

-- the rounds of a job: its waits, "and one more if a round ended it"
abbrev pub waited : Tally → ℕ
waited w = w.own + w.above + w.below + w.locked + pick w.by_round 1 0

-- the two bounds of a job
abbrev pub bounds_of : Layout → ℕ → Task → Left
bounds_of p a t = record { own = own_bound p.limit (p.segment a t) t; below = below_bound (most_below p) (p.segment a t) t }

-- what was counted, with what is left
abbrev pub in_all : Tally → Left → Left
in_all w u = record { own = w.own + u.own; below = w.below + u.below }

-- of area a's latest job, between calls
pub record TallyFits (p : Layout) (c : Core) (a : ℕ) (w : Tally) : Type 0 where
  pub sum : w.rounds ≡ waited w
  pub by_round_lem : is_pending (c.jobs a) ≡ true → w.by_round ≡ false
  pub left : AtMost (in_all w (left_at p 0 c a)) (bounds_of p a (c.jobs a).task)

-- the close counts wait k: where u was left of the job, v is
pub record Closed (k : Wait) (u v : Left) (w : Tally) : Type 0 where
  pub left : AtMost (in_all (count k w) v) (in_all w u)
  pub sum : w.rounds ≡ waited w → (count k w).rounds ≡ waited (count k w)

-- for a job that is pending at the close, whose device is in state x
pub closed : (p : Layout) (jobs : ℕ → Job) (a : ℕ) (x : Device) (w : Tally) → is_pending (jobs a) ≡ true →
    DeviceFits p jobs (need p a (jobs a)) x → Busy x.state →
    Closed (wait_on p a x.state) (left_of p 0 a (jobs a) x) (left_of p 1 a (jobs a) x) w
unfolding left_of
closed p jobs a x w h f b = go x.state refl f.state b
  where
    limit : ℕ
    limit = limit_of p a (jobs a)

    left : Wait → ℕ → ℕ → Left
    left k n t =
        let u = due_left k n (try_left a limit x.suspended) in
        left_by true (is_lock (jobs a).task.kind) (record { own = u.own; below = u.below + low_left p a limit x.suspended }) (later_left p a (jobs a))

    go : (y : DeviceState) → x.state ≡ y → StateFits p jobs (need p a (jobs a)) y → Busy y →
        Closed (wait_on p a x.state) (left_of p 0 a (jobs a) x) (left_of p 1 a (jobs a) x) w
    go Free e g b = absurd b
    go (LockedFor i) e g b = rw (h, e) (omega arith)
    go (Runs i q) e g b =
        rw (h, e)
        (by_behind (λ k. Closed k (left k (limit - (q + 0)) 0) (left k (limit - (q + 1)) 1) w) p a i
        (λ z. rw (subst (λ n. is_lock (jobs n).task.kind ≡ false) z g.no_lock) (omega (arith, g.few)))
        (λ _ _. omega arith)
        (λ _ _. omega (arith, g.few)))

-- a close that counts a wait ends no job
count_ends_none : (k : Wait) (w : Tally) → (count k w).by_round ≡ w.by_round
count_ends_none own w = refl
count_ends_none above w = refl
count_ends_none below w = refl
count_ends_none locked w = refl
count_ends_none none w = refl

-- what was counted before a part of a call, and what is left behind it, are within the bounds
within : (p : Layout) (admits : ℕ → Task → Bool) (n : ℕ) (c e : Core) (a : ℕ) (w : Tally) → FollowsAt p admits 0 n c e a → TallyFits p c a w →
    AtMost (in_all w (left_at p n e a)) (bounds_of p a (e.jobs a).task)
within p admits n c e a w f k =
    let h = f.left in
    let i = k.left in
    subst (λ t. AtMost (in_all w (left_at p n e a)) (bounds_of p a t)) (sym f.task) (omega arith)

-- an area for which a call that is no round counts nothing
pub tally_stays : (p : Layout) (admits : ℕ → Task → Bool) (c e : Core) (a : ℕ) (w : Tally) → FollowsAt p admits 0 0 c e a →
    TallyFits p c a w → TallyFits p e a w
tally_stays p admits c e a w f k = record { sum = k.sum; by_round_lem = λ i. k.by_round_lem (f.pending i); left = within p admits 0 c e a w f k }

module _ (p : Layout) (admits : ℕ → Task → Bool) (L : Laws p admits) (c : Core) (r : Reachable p admits c) where
  -- both halves of a round
  pub halves : (v : ℕ → Verdict) → Started p admits 0 p.devices c (second_half p p.devices (first_half p v p.devices c))
  halves v =
      let taken = first_half_lem p admits L v c r p.devices in
      let first = taken.passes in
      let second = second_half_lem p admits L (first_half p v p.devices c) (passed r first) taken.polled p.devices (le_refl _) in
      record { passes = passes_on first second.passes; served = second.served; polled = second.polled }

  -- the close for area a
  pub close_fits : (e : Core) → Started p admits 0 p.devices c e → (a : ℕ) (w : Tally) → TallyFits p c a w →
      TallyFits p e a (close (is_pending (c.jobs a)) (is_pending (e.jobs a)) (wait_of p e a) w)
  close_fits e s a w k = go (is_pending (c.jobs a)) (is_pending j) refl refl
    where
      f : FollowsAt p admits 0 p.devices c e a
      f = s.passes.areas a

      j : Job
      j = e.jobs a

      x : Device
      x = e.devices (need p a j)

      bound : AtMost (in_all w (left_at p p.devices e a)) (bounds_of p a j.task)
      bound = within p admits p.devices c e a w f k

      over : is_pending j ≡ false → AtMost (in_all w (left_at p 0 e a)) (bounds_of p a j.task)
      over i = rw (left_idle p a j (to_come 0 (need p a j)) x i) (let m = bound in omega arith)

      go : (b t : Bool) → is_pending (c.jobs a) ≡ b → is_pending j ≡ t → TallyFits p e a (close b t (wait_of p e a) w)
      go false true i n = absurd (true≢false (sym (f.pending n) ∙ i))
      go false false i n = record { sum = k.sum; by_round_lem = λ m. absurd (true≢false (sym m ∙ n)); left = over n }
      go true false i n =
          let sum : w.rounds ≡ w.own + w.above + w.below + w.locked + 0 = rw (k.by_round_lem i) at k.sum in
          record { sum = omega arith; by_round_lem = λ m. absurd (true≢false (sym m ∙ n)); left = let m = over n in omega arith }
      go true true i n =
          let now = passed r s.passes in
          let known = need_known L (now.jobs a n) in
          let done = closed p e.jobs a x w n (now.devices (need p a j)) (s.served a n known) in
          let before = rw (lt-ltb (need p a j) p.devices known) at bound in
          record {
            sum = done.sum k.sum;
            by_round_lem = λ _. count_ends_none (wait_of p e a) w ∙ k.by_round_lem i;
            left = rw (le-ltb (need p a j) 0 (omega arith)) (omega (arith, done.left));
          }
