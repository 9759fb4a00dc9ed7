-- What is left to the jobs that rank above a job, and that the close of a round which counts above takes one of it.
use Rattle.std.specs.Prelude.{ℕ, ◌+◌, ◌≤◌, Bool, true, ◌≡◌}
use Rattle.std.proofs.Math.Path.{refl}
use native.Mathlib.Omega.{arith}
use borrow.Author.Tests.{lt-ltb, le-ltb, eq-eqb}
use Rattle.arith.specs.Bounded.{sum}
use Rattle.arith.specs.Cases.{pick, by_bool}
use Rattle.memory.specs.declared.Task.{Task}
use Rattle.state.specs.declared.DeviceState.{DeviceState}
use Rattle.state.specs.declared.DeviceState.TheVariants.{Free, Runs, LockedFor}
use Rattle.rules.proofs.laws.Close.{closed}
use Rattle.rules.specs.History.{Tally, no_tally, count}
use Rattle.rules.proofs.laws.Laws.{Laws}
use Rattle.rules.specs.Layout.{Layout}
use Rattle.rules.specs.Machine.{Core, is_pending, need, own, wait_behind, wait_on, wait_of}
use Rattle.rules.proofs.laws.Potential.{to_come, by_behind, left_idle}
use Rattle.rules.proofs.laws.Reachable.{Running, StateFits, Reachable, left_at, Passes, need_known}
use Rattle.rules.proofs.laws.Suspends.{Served}
use Rattle.rules.proofs.laws.SumLaws.{sum_less, sum_less_one, pick_less}

-- what is left to own of area b's job, if it ranks above area a's, in a round in which the devices below n have answered
abbrev pub ahead_left : Layout → ℕ → Core → ℕ → ℕ → ℕ
ahead_left p n c a b = pick (p.outranks b a) (left_at p n c b).own 0

-- of all of them
abbrev pub all_ahead_left : Layout → ℕ → Core → ℕ → ℕ
all_ahead_left p n c a = sum (ahead_left p n c a) p.areas

module _ (p : Layout) (admits : ℕ → Task → Bool) where
  -- a part of a call leaves no more
  pub ahead_pass : (n m : ℕ) (c e : Core) → Passes p admits n m c e → (a : ℕ) → all_ahead_left p m e a ≤ all_ahead_left p n c a
  ahead_pass n m c e s a =
      sum_less (ahead_left p m e a) (ahead_left p n c a) p.areas
      (λ b _. pick_less (p.outranks b a) _ _ (let h = (s.areas b).left in omega arith))

  module _ (L : Laws p admits) (e : Core) (r : Reachable p admits e) (served : Served p p.devices e) where
    -- the close takes from a pending job what it counts as own
    taken : (b : ℕ) → is_pending (e.jobs b) ≡ true → (count (wait_of p e b) no_tally).own + (left_at p 0 e b).own ≤ (left_at p p.devices e b).own
    taken b h =
        let d = need p b (e.jobs b) in
        let known = need_known L (r.jobs b h) in
        let done = closed p e.jobs b (e.devices d) no_tally h (r.devices d) (served b h known) in
        rw (lt-ltb d p.devices known, le-ltb d 0 (omega arith)) (omega (arith, done.left))

    -- so no more is left to any
    falls : (b : ℕ) → (left_at p 0 e b).own ≤ (left_at p p.devices e b).own
    falls b =
        by_bool (is_pending (e.jobs b))
        (λ h. omega (arith, taken b h))
        (λ h. rw (left_idle p b (e.jobs b) (to_come 0 (need p b (e.jobs b))) (e.devices (need p b (e.jobs b))) h) (omega arith))

    -- of a job whose request runs, one
    one : {d : ℕ} (b polls : ℕ) → (e.devices d).state ≡ Runs b polls → Running p d b polls (e.jobs b) →
        (left_at p 0 e b).own + 1 ≤ (left_at p p.devices e b).own
    unfolding wait_behind
    one {d} b polls q f =
        let mine : wait_of p e b ≡ own = rw (f.needed, q, eq-eqb b b refl) refl in
        let h = rw mine at (taken b f.pending) in
        omega arith

    -- the close leaves no more, and one less if it counts above
    pub ahead_close : (a : ℕ) (w : Tally) → (count (wait_of p e a) w).above + all_ahead_left p 0 e a ≤ w.above + all_ahead_left p p.devices e a
    ahead_close a w = go (e.devices d).state refl (r.devices d).state
      where
        d : ℕ
        d = need p a (e.jobs a)

        less : (b : ℕ) → ahead_left p 0 e a b ≤ ahead_left p p.devices e a b
        less b = pick_less (p.outranks b a) _ _ (falls b)

        no_more : all_ahead_left p 0 e a ≤ all_ahead_left p p.devices e a
        no_more = sum_less (ahead_left p 0 e a) (ahead_left p p.devices e a) p.areas (λ b _. less b)

        go : (x : DeviceState) → (e.devices d).state ≡ x → StateFits p e.jobs d x →
            (count (wait_on p a x) w).above + all_ahead_left p 0 e a ≤ w.above + all_ahead_left p p.devices e a
        go Free q f = let h = no_more in omega arith
        go (LockedFor b) q f = let h = no_more in omega arith
        go (Runs b polls) q f =
            by_behind (λ k. (count k w).above + all_ahead_left p 0 e a ≤ w.above + all_ahead_left p p.devices e a) p a b
            (λ _. let h = no_more in omega arith)
            (λ _ t.
            let fewer : ahead_left p 0 e a b + 1 ≤ ahead_left p p.devices e a b = rw t (one b polls q f) in
            let h = sum_less_one (ahead_left p 0 e a) (ahead_left p p.devices e a) b p.areas (λ i _. less i) (r.jobs b f.pending).known fewer in
            omega arith)
            (λ _ _. let h = no_more in omega arith)
