-- The calls that are no round.
use Prim.Native.Nat.{ℕ, ◌≤◌, ◌<◌}
use Rattle.std.specs.Prelude.{Bool, false, [], ◌∷◌, ◌≡◌, Some}
use Rattle.std.proofs.Math.Bool.{true}
use Rattle.std.proofs.Common.{true≢false, sym, ap, ◌∙◌, arith, le-ltb, eq-eqb}
use Rattle.std.proofs.lemmas.Bool.{false≢true}
use Rattle.std.proofs.Math.Path.{refl, subst}
use Rattle.std.proofs.Math.Nat.{le_refl}
use Rattle.arith.specs.Cases.{pick, or_left, or_right}
use Rattle.arith.specs.Parts.{upd, upd_same, upd_other, upd_case, same_or}
use Rattle.memory.specs.declared.Task.{Task}
use Rattle.segment.specs.Segments.{is_lock, segments_from, spans, own_sum, below_sum, own_bound, below_bound}
use Rattle.segment.specs.declared.Segment.{Segment}
use Rattle.state.specs.declared.Device.{Device}
use Rattle.state.specs.declared.DeviceState.TheVariants.{Free, Runs, LockedFor}
use Rattle.state.specs.declared.Job.{Job}
use Rattle.rules.proofs.laws.Close.{bounds_of, TallyFits, tally_stays}
use Rattle.rules.proofs.laws.FewLeft.{low_few}
use Rattle.rules.proofs.laws.FirstHalf.{closes_few}
use Rattle.rules.specs.History.{Tally, no_tally}
use Rattle.rules.proofs.laws.Laws.{Laws}
use Rattle.rules.specs.Layout.{Layout, most_below}
use Rattle.rules.specs.Machine.{Core, doing, set_job, is_cancelling, is_pending, need, runs_for, kept_for, holds}
use Rattle.rules.specs.Machine.{begun, ended, cancelled, cancel_if, cancel, begin, release}
use Rattle.rules.proofs.laws.Potential.{Left, AtMost, to_come, limit_of, later_left, left_by, due_left_on, left_of, due_most}
use Rattle.rules.proofs.laws.Reachable.{Running, Suspending, SuspendedFits, JobFits, Reachable, FollowsAt, Passes}
use Rattle.rules.proofs.laws.SegmentSums.{own_next, below_first}
use Rattle.rules.proofs.laws.Turns.{state_no_worse, ended_follows, same_follows, device_keeps, Turn, device_passes}

module _ (p : Layout) (admits : ℕ → Task → Bool) (c : Core) (r : Reachable p admits c) where
  -- an area whose job a call on another area leaves as it is
  other_stays : (b a : ℕ) (k : Job) → (b ≡ a → ⊥) → FollowsAt p admits 0 0 c (set_job b k c) a
  other_stays b a k f = rw (upd_other c.jobs b a k f) (same_follows p admits a (c.jobs a) _ _)

  -- the job of area b becomes k
  job_passes : (b : ℕ) (k : Job) → ((d q : ℕ) → (c.devices d).state ≡ Runs b q → Running p d b q (c.jobs b) → Running p d b q k) →
      ((d q : ℕ) → (c.devices d).suspended ≡ Some (record { area = b; polls = q }) → Suspending p d b q (c.jobs b) → Suspending p d b q k) →
      FollowsAt p admits 0 0 c (set_job b k c) b → Passes p admits 0 0 c (set_job b k c)
  job_passes b k runs kept mine =
      record {
        devices = λ d. device_keeps p c.jobs b k d (c.devices d) (runs d) (kept d) (r.devices d);
        areas = λ a. same_or (FollowsAt p admits 0 0 c (set_job b k c)) b a mine (other_stays b a k);
      }

  -- an accepted cancel
  pub cancel_passes : (a : ℕ) → is_pending (c.jobs a) ≡ true → Passes p admits 0 0 c (cancel p a c)
  unfolding cancel left_of later_left
  cancel_passes a h = go (holds a (c.devices (need p a (c.jobs a)))) refl
    where
      j : Job
      j = c.jobs a

      x : Device
      x = c.devices (need p a j)

      runs_here : (q : ℕ) → x.state ≡ Runs a q → holds a x ≡ true
      runs_here q e = or_left (runs_for a x.state) (kept_for a x.suspended) (rw e (eq-eqb a a refl))

      kept_here : (q : ℕ) → x.suspended ≡ Some (record { area = a; polls = q }) → holds a x ≡ true
      kept_here q e = or_right (runs_for a x.state) (kept_for a x.suspended) (rw e (eq-eqb a a refl))

      go : (t : Bool) → holds a x ≡ t → Passes p admits 0 0 c (cancel_if t a c)
      go true o =
          job_passes a (cancelled j)
          (λ d q e i. record { pending = refl; no_lock = i.no_lock; needed = i.needed; few = i.few })
          (λ d q e i. record { pending = refl; erases = i.erases; needed = i.needed; few = i.few; polled = i.polled; can = i.can })
          (rw (upd_same c.jobs a (cancelled j))
          (record {
            left = rw h (omega arith);
            task = refl;
            pending = λ _. h;
            fits = λ f _. record { known = f.known; admitted = f.admitted; more = f.more; retries = f.retries };
            cancelled = λ _ _. o;
          }))
      go false o =
          job_passes a (ended 3 j)
          (λ d q e i. absurd (true≢false (sym (runs_here q (ap (λ n. (c.devices n).state) i.needed ∙ e)) ∙ o)))
          (λ d q e i. absurd (true≢false (sym (kept_here q (ap (λ n. (c.devices n).suspended) i.needed ∙ e)) ∙ o)))
          (rw (upd_same c.jobs a (ended 3 j)) (ended_follows p admits a j (ended 3 j) _ _ _ _ refl refl))

  -- an accepted release
  pub release_passes : (d b : ℕ) → (c.devices d).state ≡ LockedFor b → Passes p admits 0 0 c (release d c)
  unfolding release
  release_passes d b e =
      device_passes p admits turn c r (doing Free (c.devices d)) (record { state = tt; suspended = (r.devices d).suspended; apart = tt })
      (λ a _ _. state_no_worse p a (p.limit d) 1 1 (c.devices d) Free (rw e (record { left = omega arith; runs = λ i. i })))
    where
      turn : Turn 0 0 d 1 1
      turn = record { before = rw (le-ltb d 0 (omega arith)); after = rw (le-ltb d 0 (omega arith)); others = λ _ _. refl }

  module _ (L : Laws p admits) (a : ℕ) (t : Task) (known : a < p.areas) (idle : is_pending (c.jobs a) ≡ false) (adm : admits a t ≡ true) where
    -- the new job
    k : Job
    k = begun p a t (c.jobs a)

    -- an accepted job leads to a reachable state
    pub begin_reachable : Reachable p admits (begin p a t c)
    unfolding begin k
    begin_reachable =
        record {
          devices = λ d. device_keeps p c.jobs a k d (c.devices d) (λ q e i. absurd (true≢false (sym i.pending ∙ idle)))
              (λ q e i. absurd (true≢false (sym i.pending ∙ idle))) (r.devices d);
          jobs = λ b. upd_case (λ j. is_pending j ≡ true → JobFits p admits b j) c.jobs a b k
              (λ e _. subst (λ n. JobFits p admits n k) e new)
              (λ _. r.jobs b);
          cancelled = λ b. upd_case (λ j. is_cancelling j.status ≡ true → holds b (c.devices (need p b j)) ≡ true) c.jobs a b k
              (λ _ i. absurd (false≢true i))
              (λ _. r.cancelled b);
        }
      where
        new : JobFits p admits a k
        new = record { known = known; admitted = adm; more = L.length_some a t adm; retries = le_refl _ }

    -- a new job has its bounds left
    begun_left : (x : Device) → SuspendedFits p c.jobs (need p a k) x.suspended → AtMost (left_of p (to_come 0 (need p a k)) a k x) (bounds_of p a t)
    unfolding left_of later_left own_bound below_bound below_sum k
    begun_left x kept = go (is_lock t.kind)
      where
        limit : ℕ
        limit = limit_of p a k

        next : ℕ → Segment
        next = p.segment a t

        some : (y : ℕ) → y < t.length → 1 ≤ (next y).length
        some y = L.segment_some a t y known adm

        due : Left
        due = due_left_on p (to_come 0 (need p a k)) a limit x

        most : AtMost due (record { own = limit; below = most_below p (need p a k) })
        most =
            let h = due_most p (to_come 0 (need p a k)) a limit x in
            let i = low_few p c.jobs (need p a k) a x.suspended kept in
            let n = closes_few 0 (need p a k) limit x.state (λ i. absurd (omega arith)) in
            omega (arith, h, i, n)

        go : (l : Bool) → AtMost (left_by true l due (later_left p a k))
            (record {
              own = pick l 0 (own_sum p.limit (segments_from next t 0));
              below = below_sum (most_below p) (pick l ((next 0).device ∷ []) (spans (segments_from next t 0)));
            })
        go true = let h = most in omega arith
        go false =
            let h = most in
            let i = L.length_some a t adm in
            omega (arith, own_next next t some 0 i p.limit, below_first next t some 0 i (most_below p))

    -- an accepted job begins with all numbers 0
    pub begin_tally : (w : ℕ → Tally) → ((b : ℕ) → TallyFits p c b (w b)) → (b : ℕ) → TallyFits p (begin p a t c) b (upd w a no_tally b)
    unfolding begin k
    begin_tally w f b =
        same_or (λ b. TallyFits p (set_job a k c) b (upd w a no_tally b)) a b
        (rw (upd_same w a no_tally)
        (record {
          sum = refl;
          by_round_lem = λ _. refl;
          left = rw (upd_same c.jobs a k) (let h = begun_left (c.devices (need p a k)) (r.devices (need p a k)).suspended in omega arith);
        }))
        (λ g. rw (upd_other w a b no_tally g) (tally_stays p admits c (set_job a k c) b (w b) (other_stays a b k g) (f b)))
