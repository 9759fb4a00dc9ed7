-- What the end of a request leaves of its job.
use Prim.Native.Nat.{ℕ, suc, ◌+◌, ◌-◌, ◌*◌, ◌≤◌, ◌<◌}
use Rattle.std.specs.Prelude.{Bool, ◌≡◌, leb}
use Rattle.std.proofs.Math.Bool.{true, false}
use Rattle.std.proofs.lemmas.Bool.{false≢true}
use Rattle.std.proofs.Math.Path.{refl, ap}
use Rattle.std.proofs.Common.{◌∙◌}
use Rattle.std.proofs.Math.Nat.{mul-suc}
use native.Mathlib.Omega.{arith}
use Rattle.std.proofs.Math.Dec.{eqb}
use borrow.Author.Tests.{leb-false, eqb-false, eq-eqb}
use Rattle.arith.specs.Cases.{pick, by_bool}
use Rattle.memory.specs.declared.Task.{Task}
use Rattle.segment.specs.declared.Segment.{Segment}
use Rattle.state.specs.declared.Device.{Device}
use Rattle.state.specs.declared.Job.{Job}
use Rattle.rules.proofs.laws.Laws.{Laws}
use Rattle.rules.specs.Layout.{Layout, most_below}
use Rattle.rules.specs.Machine.{is_pending, is_cancelling, due, need, ended, moved}
use Rattle.rules.specs.Machine.{after_failed, job_failed, after_finished, job_finished, after_differs, job_differs}
use Rattle.rules.proofs.laws.Potential.{AtMost, closes_on, low_left, limit_of, later_left, left_of, left_idle, left_most}
use Rattle.rules.proofs.laws.Reachable.{JobFits}
use Rattle.rules.proofs.laws.SegmentSums.{own_next, below_next}

-- The job j of area a, whose request ends, becomes k. Where the next segment is on another device, that may run another area and keep
-- a third suspended; on the same device nothing runs, and a suspended erase takes `low` at most, as before.
pub record Settled (p : Layout) (admits : ℕ → Task → Bool) (a : ℕ) (j k : Job) : Type 0 where
  pub task : k.task ≡ j.task
  pub fits : is_pending k ≡ true → JobFits p admits a k
  pub over : is_cancelling k.status ≡ false
  pub left : (t low : ℕ) (x : Device) →
      closes_on t (limit_of p a k) x.state + low_left p a (limit_of p a k) x.suspended ≤ pick (eqb (need p a j) (need p a k)) low (most_below p (need p a k)) →
      AtMost (left_of p t a k x) (record { own = (later_left p a j).own; below = low + (later_left p a j).below })

module _ (p : Layout) (admits : ℕ → Task → Bool) (L : Laws p admits) (a : ℕ) (j : Job) (f : JobFits p admits a j) where
  -- the job ends
  ended_settled : (r : ℕ) (k : Job) → k.task ≡ j.task → Settled p admits a j (ended r k)
  ended_settled r k e =
      record {
        task = e;
        fits = λ i. absurd (false≢true i);
        over = refl;
        left = λ t low x _. rw (left_idle p a (ended r k) t x refl) (omega arith);
      }

  -- the job goes on at x with r retries; what a try there can add was left for later before
  moved_settled : (x r : ℕ) → is_cancelling j.status ≡ false → x < j.task.length → r ≤ (p.segment a j.task x).retries →
      let k = moved x r j in
      AtMost (record {
        own = limit_of p a k + (later_left p a k).own;
        below = pick (eqb (need p a j) (need p a k)) 0 (most_below p (need p a k)) + (later_left p a k).below;
      }) (later_left p a j) → Settled p admits a j k
  moved_settled x r n h i m =
      record {
        task = refl;
        fits = λ _. record { known = f.known; admitted = f.admitted; more = h; retries = i };
        over = n;
        left = λ t low y c.
            let k = moved x r j in
            let most = left_most p a k t y in
            by_bool (eqb (need p a j) (need p a k))
            (λ e. let m = rw e at m in let c = rw e at c in omega (arith, m, most, c))
            (λ e. let m = rw e at m in let c = rw e at c in omega (arith, m, most, c));
      }

  -- "with a retry left the same piece is due again, otherwise the job ends"
  pub failed_settled : Settled p admits a j (job_failed j)
  unfolding job_failed later_left
  failed_settled = go (is_cancelling j.status) (eqb j.retries_left 0) refl refl
    where
      go : (s t : Bool) → is_cancelling j.status ≡ s → eqb j.retries_left 0 ≡ t → Settled p admits a j (after_failed s t j)
      go true t c e = ended_settled 3 j refl
      go false true c e = ended_settled 1 j refl
      go false false c e =
          let limit = limit_of p a j in
          let r = j.retries_left - 1 in
          let some : j.retries_left ≡ 0 → ⊥ = eqb-false j.retries_left 0 e in
          let one : j.retries_left ≡ suc r = omega arith in
          let paid : limit * j.retries_left ≡ limit * r + limit = ap (limit *◌) one ∙ mul-suc limit r in
          moved_settled j.processed r c f.more (omega (arith, f.retries)) (rw (eq-eqb (need p a j) (need p a j) refl) (omega arith))

  -- "a differing byte .. ends the job"
  pub differs_settled : Settled p admits a j (job_differs j)
  unfolding job_differs
  differs_settled = go (is_cancelling j.status)
    where
      go : (s : Bool) → Settled p admits a j (after_differs s j)
      go true = ended_settled 3 j refl
      go false = ended_settled 2 j refl

  -- "done adds the piece to the processed length; after the last piece the job ends"
  pub finished_settled : Settled p admits a j (job_finished p a j)
  unfolding job_finished later_left
  finished_settled = go (is_cancelling j.status) (leb j.task.length x) refl refl
    where
      x : ℕ
      x = j.processed + (due p a j).length

      next : ℕ → Segment
      next = p.segment a j.task

      some : (y : ℕ) → y < j.task.length → 1 ≤ (next y).length
      some y = L.segment_some a j.task y f.known f.admitted

      r : ℕ
      r = (next x).retries

      go : (s t : Bool) → is_cancelling j.status ≡ s → leb j.task.length x ≡ t → Settled p admits a j (after_finished s t x r j)
      go true t c e = ended_settled 3 (moved x j.retries_left j) refl
      go false true c e = ended_settled 0 (moved x j.retries_left j) refl
      go false false c e =
          let h = leb-false j.task.length x e in
          moved_settled x r c h (omega arith)
          (omega (arith, own_next next j.task some x h p.limit, below_next next j.task some x h (most_below p) (need p a j)))
