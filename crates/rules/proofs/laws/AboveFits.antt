-- The rounds that a job counts above are own rounds of the jobs ahead of it, after every list of calls.
use Prim.Native.Nat.{ℕ, ◌+◌, ◌≤◌}
use Rattle.std.specs.Prelude.{Bool, true, false, ◌≡◌, eqb}
use Rattle.std.proofs.Common.{true≢false, sym, ◌∙◌, le_refl, arith}
use Rattle.std.proofs.lemmas.Bool.{false≢true}
use mathlib.Core.List.{List, [], ◌∷◌}
use Rattle.std.proofs.Math.Path.{refl}
use Rattle.arith.specs.Cases.{pick, by_bool, by_eqb}
use Rattle.arith.specs.Parts.{upd_same, upd_other}
use Rattle.memory.specs.declared.DeviceAnswer.{DeviceAnswer}
use Rattle.memory.specs.declared.Task.{Task}
use Rattle.plan.specs.declared.records.Plan.{Plan}
use Rattle.state.specs.declared.Device.{Device}
use Rattle.state.specs.declared.Job.{Job}
use Rattle.rules.specs.Admission.{job_number, release_number, cancel_number, round_number, admits}
use Rattle.rules.specs.History.{Call, submit, releases, cancels, asks, round, Tally, no_tally, History, count, close, lent, fresh_history, round_of, submitted, step, run}
use Rattle.rules.specs.Layout.{Layout, layout_of, layout_at, priority_of}
use Rattle.rules.specs.Machine.{Core, is_pending, need, wait_of, begun, begin}
use Rattle.rules.specs.Memory.{Memory}
use Rattle.rules.specs.Ranks.{ages_after}
use Rattle.rules.specs.Round.{round_halves}
use Rattle.rules.proofs.laws.AboveLeft.{ahead_left, all_ahead_left, ahead_pass, ahead_close}
use Rattle.rules.proofs.laws.Admitted.{job_admitted}
use Rattle.rules.proofs.laws.Laws.{Laws}
use Rattle.rules.proofs.laws.Potential.{to_come, left_of, left_idle}
use Rattle.rules.proofs.laws.RankLaws.{AgesApart, ranks_kept}
use Rattle.rules.proofs.laws.Ranked.{left_ranked, waits_kept}
use Rattle.rules.proofs.laws.Reachable.{Passes, passed}
use Rattle.rules.proofs.laws.Runs.{HistoryFits, at, submitted_fits, round_started, released, cancelled, step_fits, start_fits}
use Rattle.rules.proofs.laws.SumLaws.{sum_less, sum_more_one, pick_less, pick_none}
use Rattle.rules.specs.statements.Statements.{is_above, ahead_most, above_accepted, above_next, above_from, AboveBounded}

-- Area a's job has counted w: it is within its number n, with what is left to the jobs that rank above it if it is pending.
record Within (p : Layout) (c : Core) (a : ℕ) (w : Tally) (n : ℕ) : Type 0 where
  counted : w.above ≤ n
  left : is_pending (c.jobs a) ≡ true → w.above + all_ahead_left p 0 c a ≤ n

-- with the ranks of the moment
abbrev AllWithin : Plan → History → (ℕ → ℕ) → Type 0
AllWithin p h most = (a : ℕ) → Within (layout_at p h.ages) h.core a (h.tallies a) (most a)

-- a call that changes the core and counts nothing
passes_within : (p : Layout) (admits : ℕ → Task → Bool) (c e : Core) → Passes p admits 0 0 c e → (a : ℕ) (w : Tally) (n : ℕ) →
    Within p c a w n → Within p e a w n
passes_within p admits c e s a w n k =
    record { counted = k.counted; left = λ i. omega (arith, k.left ((s.areas a).pending i), ahead_pass p admits 0 0 c e s a) }

module _ (p : Plan) (L : (ages : ℕ → ℕ) → AgesApart ages → Laws (layout_at p ages) (admits p)) where
  -- what is left to a job that is ahead is within its own bound
  ahead_most_lem : (h : History) → HistoryFits p h → (a b : ℕ) → ahead_left (layout_at p h.ages) 0 h.core a b ≤ ahead_most p h b a
  ahead_most_lem h f a b =
      by_bool (is_pending (h.core.jobs b))
      (λ i. rw i (pick_less (is_above p h b a) _ _ (let k = (f.tallies b).left in omega arith)))
      (λ i. rw (i, left_idle (layout_at p h.ages) b (h.core.jobs b) _ (h.core.devices (need (layout_of p) b (h.core.jobs b))) i)
      (pick_none (is_above p h b a)))

  -- an accepted round
  round_within : (answers : List DeviceAnswer) (m : Memory) (h : History) (most : ℕ → ℕ) → HistoryFits p h → AllWithin p h most →
      AllWithin p (round_of p answers m h) most
  unfolding round_of
  round_within answers m h most f k a = go (is_pending (h.core.jobs a)) (is_pending (e.jobs a)) refl refl
    where
      l : Layout
      l = layout_at p h.ages

      e : Core
      e = (round_halves p h.ages answers (lent m h)).core

      w : Tally
      w = h.tallies a

      go : (b t : Bool) → is_pending (h.core.jobs a) ≡ b → is_pending (e.jobs a) ≡ t → Within l e a (close b t (wait_of l e a) w) (most a)
      go false true i n = absurd (true≢false (sym (((round_started p L answers m h f).passes.areas a).pending n) ∙ i))
      go false false i n = record { counted = (k a).counted; left = λ j. absurd (true≢false (sym j ∙ n)) }
      go true false i n = record { counted = (k a).counted; left = λ j. absurd (true≢false (sym j ∙ n)) }
      go true true i n =
          let s = round_started p L answers m h f in
          let now = passed (at p L h.ages h.core f.reachable) s.passes in
          let all : (count (wait_of l e a) w).above + all_ahead_left l 0 e a ≤ most a
          = omega (
            arith,
            ahead_close l (admits p) (L h.ages f.apart) e now s.served a w,
            ahead_pass l (admits p) 0 l.devices h.core e s.passes a,
            (k a).left i,
          ) in
          record { counted = omega arith; left = λ _. all }

  -- the acceptance of a job of area a, which is idle, leaves what is left to another area's job
  ahead_stays : (a : ℕ) (t : Task) (h : History) → HistoryFits p h → is_pending (h.core.jobs a) ≡ false →
      (b c : ℕ) → (b ≡ a → ⊥) → (c ≡ a → ⊥) →
      ahead_left (layout_at p (ages_after a h.ages)) 0 (begin (layout_of p) a t h.core) b c ≤ ahead_left (layout_at p h.ages) 0 h.core b c
  unfolding begin
  ahead_stays a t h f idle b c u v =
      rw (upd_other h.core.jobs a c (begun (layout_of p) a t (h.core.jobs a)) (λ z. v (sym z)))
      (by_bool (is_pending j) pending
      (λ n. rw (left_idle (layout_at p after) c j _ x n) (pick_none ((layout_at p after).outranks c b))))
    where
      after : ℕ → ℕ
      after = ages_after a h.ages

      j : Job
      j = h.core.jobs c

      x : Device
      x = h.core.devices (need (layout_of p) c j)

      pending : is_pending j ≡ true →
          pick ((layout_at p after).outranks c b) (left_of (layout_at p after) (to_come 0 (need (layout_of p) c j)) c j x).own 0
          ≤ pick ((layout_at p h.ages).outranks c b) (left_of (layout_at p h.ages) (to_come 0 (need (layout_of p) c j)) c j x).own 0
      pending n =
          let same = waits_kept p h.ages f.apart (admits p) h.core f.reachable a idle c n in
          rw (
            ranks_kept a h.ages f.apart (priority_of p) c b v u,
            ← left_ranked (layout_of p) (layout_at p h.ages).outranks (layout_at p after).outranks (to_come 0 (need (layout_of p) c j)) c j x same,
          )
          (le_refl _)

  -- an accepted job
  submitted_within : (a : ℕ) (t : Task) (h : History) (most : ℕ → ℕ) → HistoryFits p h → AllWithin p h most → job_number p h.core a t ≡ 0 →
      AllWithin p (submitted p a t h) (above_accepted p (submitted p a t h) a most)
  unfolding submitted begin layout_of
  submitted_within a t h most f k e b = by_eqb b a new other
    where
      g : History
      g = submitted p a t h

      after : HistoryFits p g
      after = submitted_fits p L a t h f e

      -- before it all that is left to the jobs ahead
      new : eqb b a ≡ true → b ≡ a → Within (layout_at p g.ages) g.core b (g.tallies b) (above_accepted p g a most b)
      new u q =
          rw (u, q, upd_same h.tallies a no_tally)
          (record {
            counted = omega arith;
            left = λ _.
                let all = sum_less (ahead_left (layout_at p g.ages) 0 g.core a) (λ i. ahead_most p g i a) p.area_count (λ i _. ahead_most_lem g after a i) in
                omega arith;
          })

      other : eqb b a ≡ false → (b ≡ a → ⊥) → Within (layout_at p g.ages) g.core b (g.tallies b) (above_accepted p g a most b)
      other u q =
          rw (u, upd_other h.tallies a b no_tally (λ z. q (sym z)))
          (record { counted = let i = (k b).counted in omega arith; left = λ i. let all = left i in let new = counts i in omega arith })
        where
          -- the new one is ahead of a pending job, or is not
          counts : is_pending (g.core.jobs b) ≡ true → pick (is_pending (g.core.jobs b)) (ahead_most p g a b) 0 ≡ ahead_most p g a b
          counts i = rw i refl

          left : is_pending (g.core.jobs b) ≡ true → (h.tallies b).above + all_ahead_left (layout_at p g.ages) 0 g.core b ≤ most b + ahead_most p g a b
          left i =
              let m = job_admitted p h.core a t e in
              let n = rw (upd_other h.core.jobs a b (begun (layout_of p) a t (h.core.jobs a)) (λ z. q (sym z))) at i in
              let all = sum_more_one (ahead_left (layout_at p g.ages) 0 g.core b) (ahead_left (layout_at p h.ages) 0 h.core b) a
              (ahead_most p g a b) p.area_count
              (λ c _. by_eqb c a
              (λ s z. rw (s, z) (omega (arith, ahead_most_lem g after b a)))
              (λ s z. rw s (omega (arith, ahead_stays a t h f m.1 b c q z)))) in
              omega (arith, (k b).left n)

  -- every call
  step_within : (x : Call) (h : History) (most : ℕ → ℕ) → HistoryFits p h → AllWithin p h most → AllWithin p (step p x h) (above_next p x h most)
  unfolding step
  step_within (submit a t) h most f k = by_eqb (job_number p h.core a t) 0 (λ e q. rw e (submitted_within a t h most f k q)) (λ e _. rw e k)
  step_within (releases a address n) h most f k =
      by_eqb (release_number p h.core a address n) 0
      (λ e q. rw e (λ b. passes_within (layout_at p h.ages) (admits p) h.core _ (released p L a address n h f q) b (h.tallies b) (most b) (k b)))
      (λ e _. rw e k)
  step_within (cancels a) h most f k =
      by_eqb (cancel_number p h.core a) 0
      (λ e q. rw e (λ b. passes_within (layout_at p h.ages) (admits p) h.core _ (cancelled p L a h f q) b (h.tallies b) (most b) (k b)))
      (λ e _. rw e k)
  step_within (asks q) h most f k = k
  step_within (round answers m) h most f k =
      by_eqb (round_number p m.image m.store) 0 (λ e _. rw e (round_within answers m h most f k)) (λ e _. rw e k)

  -- every list of calls
  run_within : (cs : List Call) (h : History) (most : ℕ → ℕ) → HistoryFits p h → AllWithin p h most → AllWithin p (run p cs h) (above_from p cs h most)
  unfolding run above_from
  run_within [] h most f k = k
  run_within (x ∷ cs) h most f k = run_within cs (step p x h) (above_next p x h most) (step_fits p L x h f) (step_within x h most f k)

  -- at the start no job is pending
  start_within : AllWithin p fresh_history (λ a. 0)
  unfolding fresh_history
  start_within a = record { counted = omega arith; left = λ i. absurd (false≢true i) }

  -- every list of calls from the start
  pub above-bounded : (cs : List Call) → AboveBounded p (run p cs fresh_history) cs
  above-bounded cs a = (run_within cs fresh_history (λ b. 0) (start_fits p L) start_within a).counted
