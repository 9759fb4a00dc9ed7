-- The bound on above is at most what the accepted jobs add to it, and these add no more than the jobs that they are taken from.
use Rattle.std.specs.Prelude.{ℕ, ◌+◌, ◌≤◌, true, false, ◌&&◌, ◌≡◌, refl, eqb}
use mathlib.Core.List.{List, [], ◌∷◌, ◌++◌}
use Rattle.std.proofs.Common.{sym, subst, arith, lt-ltb}
use Rattle.std.proofs.Math.Nat.{le_refl}
use Rattle.arith.specs.Bounded.{sum, sum_bound}
use Rattle.arith.specs.Cases.{pick, by_bool, by_eqb}
use Rattle.arith.specs.Parts.{upd_same, upd_other}
use Rattle.memory.specs.declared.DeviceAnswer.{DeviceAnswer}
use Rattle.memory.specs.declared.LogicalAddress.{LogicalAddress}
use Rattle.memory.specs.declared.Task.{Task}
use Rattle.plan.specs.declared.records.Plan.{Plan}
use Rattle.segment.specs.Segments.{own_bound}
use Rattle.rules.specs.Admission.{job_number, release_number, cancel_number, round_number, admits}
use Rattle.rules.specs.History.{Call, submit, releases, cancels, asks, round, History, fresh_history, round_of, submitted, step}
use Rattle.rules.specs.Layout.{Layout, layout_of, layout_at}
use Rattle.rules.specs.Machine.{Core, is_pending, begun, begin}
use Rattle.rules.specs.Memory.{Memory}
use Rattle.rules.proofs.laws.Admitted.{job_admitted}
use Rattle.rules.proofs.laws.Laws.{Laws}
use Rattle.rules.proofs.laws.RankLaws.{AgesApart}
use Rattle.rules.proofs.laws.RanksMay.{ranks_may}
use Rattle.rules.proofs.laws.Reachable.{Passes}
use Rattle.rules.proofs.laws.Runs.{HistoryFits, round_started, released, cancelled, step_fits, start_fits}
use Rattle.rules.proofs.laws.SumLaws.{sum_less, sum_more_one, pick_less, pick_none, pick_most}
use Rattle.rules.specs.statements.JobSets.{AreaJob, accepted_by, accepted_jobs, TakenFrom, may_rank_above, is_admissible, job_above, jobs_above}
use Rattle.rules.specs.statements.Statements.{is_above, ahead_most, above_accepted, above_next, above_from, above_most}

-- a job among others adds its own
jobs_above_one : (p : Plan) (a : ℕ) (before : List AreaJob) (j : AreaJob) (behind : List AreaJob) →
    jobs_above p a (before ++ (j ∷ behind)) ≡ job_above p a j + jobs_above p a (before ++ behind)
unfolding jobs_above
jobs_above_one p a [] j behind = refl
jobs_above_one p a (i ∷ before) j behind = let h = jobs_above_one p a before j behind in omega arith

-- jobs that are taken from others add no more than these
pub taken_above : (p : Plan) (a : ℕ) (some all : List AreaJob) → TakenFrom some all → jobs_above p a some ≤ jobs_above p a all
unfolding jobs_above TakenFrom
taken_above p a [] all k = omega arith
taken_above p a (j ∷ js) all (before, behind, e, k) = rw e (omega (arith, taken_above p a js (before ++ behind) k, jobs_above_one p a before j behind))

-- an accepted job is admissible
pub accepted_admissible : (p : Plan) (c : Core) (b : ℕ) (t : Task) → job_number p c b t ≡ 0 → is_admissible p (record { area = b; task = t }) ≡ true
accepted_admissible p c b t e = let m = job_admitted p c b t e in rw (lt-ltb b p.area_count m.0, m.2)

-- the own bound of area b's pending job, if it can rank above area a's
abbrev may_most : Plan → Core → ℕ → ℕ → ℕ
may_most p c a b = let t = (c.jobs b).task in pick (may_rank_above p b a) (pick (is_pending (c.jobs b)) (own_bound (layout_of p).limit ((layout_of p).segment b t) t) 0) 0

-- of all areas
abbrev all_may_most : Plan → Core → ℕ → ℕ
all_may_most p c a = sum (may_most p c a) p.area_count

-- what is ahead of area a is among them
ahead_may : (p : Plan) (h : History) (a b : ℕ) → ahead_most p h b a ≤ may_most p h.core a b
ahead_may p h a b =
    by_bool (is_pending (h.core.jobs b))
    (λ i. rw i (by_bool (is_above p h b a)
    (λ t. rw (t, ranks_may p h.ages a b t) (le_refl _))
    (λ t. rw t (omega arith))))
    (λ i. rw i (omega arith))

-- within n: area a's number, and what the pending jobs can add to it at an acceptance
record Within (p : Plan) (h : History) (most : ℕ → ℕ) (a n : ℕ) : Type 0 where
  number : most a ≤ n
  pending : all_may_most p h.core a ≤ n

-- a part of a call, or all of one, that accepts no job
may_pass : (p : Plan) (l : Layout) (m n : ℕ) (c e : Core) → Passes l (admits p) m n c e → (a : ℕ) → all_may_most p e a ≤ all_may_most p c a
may_pass p l m n c e s a =
    sum_less (may_most p e a) (may_most p c a) p.area_count
    (λ b _. rw (s.areas b).task (pick_less (may_rank_above p b a) _ _
    (by_bool (is_pending (e.jobs b)) (λ i. rw (i, (s.areas b).pending i) (le_refl _)) (λ i. rw i (omega arith)))))

module _ (p : Plan) (L : (ages : ℕ → ℕ) → AgesApart ages → Laws (layout_at p ages) (admits p)) (a : ℕ) where
  -- an accepted job
  submitted_within : (b : ℕ) (t : Task) (h : History) (most : ℕ → ℕ) (n : ℕ) → job_number p h.core b t ≡ 0 → Within p h most a n →
      Within p (submitted p b t h) (above_accepted p (submitted p b t h) b most) a (n + job_above p a (record { area = b; task = t }))
  unfolding submitted begin
  submitted_within b t h most n accepted k =
      rw (accepted_admissible p h.core b t accepted) (record { number = by_eqb a b mine other; pending = all })
    where
      g : History
      g = submitted p b t h

      new : ℕ
      new = pick (may_rank_above p b a && true) (own_bound (layout_of p).limit ((layout_of p).segment b t) t) 0

      -- each area's pending job: b's is new
      one : (i : ℕ) → may_most p g.core a i ≤ may_most p h.core a i + pick (eqb i b) new 0
      one i =
          by_eqb i b
          (λ e q. rw (e, q, upd_same h.core.jobs b (begun (layout_of p) b t (h.core.jobs b)))
          (by_bool (may_rank_above p b a) (λ u. rw u (omega arith)) (λ u. rw u (omega arith))))
          (λ e q. rw (e, upd_other h.core.jobs b i (begun (layout_of p) b t (h.core.jobs b)) (λ z. q (sym z))) (omega arith))

      all : all_may_most p g.core a ≤ n + new
      all = omega (arith, k.pending, sum_more_one (may_most p g.core a) (may_most p h.core a) b new p.area_count (λ i _. one i))

      mine : eqb a b ≡ true → a ≡ b → above_accepted p g b most a ≤ n + new
      mine e q =
          let each : sum (λ i. ahead_most p g i b) p.area_count ≤ all_may_most p g.core a
          = subst (λ x. sum (λ i. ahead_most p g i x) p.area_count ≤ all_may_most p g.core a) q
          (sum_less (λ i. ahead_most p g i a) (may_most p g.core a) p.area_count (λ i _. ahead_may p g a i)) in
          rw e (omega (arith, all))

      other : eqb a b ≡ false → (a ≡ b → ⊥) → above_accepted p g b most a ≤ n + new
      other e q =
          let its : may_most p g.core a b ≤ new
          = rw (upd_same h.core.jobs b (begun (layout_of p) b t (h.core.jobs b)))
          (by_bool (may_rank_above p b a) (λ u. rw u (omega arith)) (λ u. rw u (omega arith))) in
          rw e (omega (arith, k.number, ahead_may p g a b, pick_most (is_pending (g.core.jobs a)) (ahead_most p g b a)))

  -- a call that accepts no job leaves both
  abbrev Stays : Call → History → (ℕ → ℕ) → ℕ → Type 0
  Stays x h most n = Within p h most a n → Within p (step p x h) most a n

  passes_stays : (h : History) (most : ℕ → ℕ) (n m : ℕ) (e : Core) → Passes (layout_at p h.ages) (admits p) 0 m h.core e → Within p h most a n →
      all_may_most p e a ≤ n
  passes_stays h most n m e s k = omega (arith, k.pending, may_pass p (layout_at p h.ages) 0 m h.core e s a)

  release_stays : (b : ℕ) (address : LogicalAddress) (i : ℕ) (h : History) (most : ℕ → ℕ) (n : ℕ) → HistoryFits p h → Stays (releases b address i) h most n
  unfolding step
  release_stays b address i h most n f k =
      by_eqb (release_number p h.core b address i) 0
      (λ e q. rw e (record { number = k.number; pending = passes_stays h most n 0 _ (released p L b address i h f q) k }))
      (λ e _. rw e k)

  cancel_stays : (b : ℕ) (h : History) (most : ℕ → ℕ) (n : ℕ) → HistoryFits p h → Stays (cancels b) h most n
  unfolding step
  cancel_stays b h most n f k =
      by_eqb (cancel_number p h.core b) 0
      (λ e q. rw e (record { number = k.number; pending = passes_stays h most n 0 _ (cancelled p L b h f q) k }))
      (λ e _. rw e k)

  round_stays : (answers : List DeviceAnswer) (m : Memory) (h : History) (most : ℕ → ℕ) (n : ℕ) → HistoryFits p h → Stays (round answers m) h most n
  unfolding step round_of
  round_stays answers m h most n f k =
      by_eqb (round_number p m.image m.store) 0
      (λ e _. rw e (record { number = k.number; pending = passes_stays h most n (layout_of p).devices _ (round_started p L answers m h f).passes k }))
      (λ e _. rw e k)

  -- Call x comes at history h, and the later calls accept `later`: within m behind it, and what x adds is in what it accepts.
  record Adds (x : Call) (h : History) (most : ℕ → ℕ) (n : ℕ) (later : List AreaJob) : Type 0 where
    bound : ℕ
    within : Within p (step p x h) (above_next p x h most) a bound
    added : bound + jobs_above p a later ≤ n + jobs_above p a (accepted_by p x h later)

  -- every call
  step_adds : (x : Call) (h : History) (most : ℕ → ℕ) (n : ℕ) (later : List AreaJob) → HistoryFits p h → Within p h most a n → Adds x h most n later
  unfolding step jobs_above
  step_adds (submit b t) h most n later f k =
      by_eqb (job_number p h.core b t) 0
      (λ e q. record {
        bound = n + job_above p a (record { area = b; task = t });
        within = rw e (submitted_within b t h most n q k);
        added = rw e (omega arith);
      })
      (λ e _. record { bound = n; within = rw e k; added = rw e (le_refl _) })
  step_adds (releases b address i) h most n later f k = record { bound = n; within = release_stays b address i h most n f k; added = le_refl _ }
  step_adds (cancels b) h most n later f k = record { bound = n; within = cancel_stays b h most n f k; added = le_refl _ }
  step_adds (asks q) h most n later f k = record { bound = n; within = k; added = le_refl _ }
  step_adds (round answers m) h most n later f k = record { bound = n; within = round_stays answers m h most n f k; added = le_refl _ }

  -- every list of calls
  run_adds : (cs : List Call) (h : History) (most : ℕ → ℕ) (n : ℕ) → HistoryFits p h → Within p h most a n →
      above_from p cs h most a ≤ n + jobs_above p a (accepted_jobs p cs h)
  unfolding above_from accepted_jobs
  run_adds [] h most n f k = omega (arith, k.number)
  run_adds (x ∷ cs) h most n f k =
      let s = step_adds x h most n (accepted_jobs p cs (step p x h)) f k in
      omega (arith, run_adds cs (step p x h) (above_next p x h most) s.bound (step_fits p L x h f) s.within, s.added)

  -- at the start no job is pending
  start_within : Within p fresh_history (λ b. 0) a 0
  unfolding fresh_history
  start_within = record { number = omega arith; pending = none p.area_count }
    where
      none : (n : ℕ) → sum (may_most p fresh_history.core a) n ≤ 0
      none n = omega (arith, sum_bound (may_most p fresh_history.core a) 0 n (λ b _. pick_none (may_rank_above p b a)))

  -- every list of calls from the start
  pub above_jobs : (cs : List Call) → above_most p cs a ≤ jobs_above p a (accepted_jobs p cs fresh_history)
  above_jobs cs = let h = run_adds cs fresh_history (λ b. 0) 0 (start_fits p L) start_within in omega arith
