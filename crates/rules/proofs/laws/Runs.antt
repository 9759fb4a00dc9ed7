-- Every call, and every list of calls.
use Rattle.std.specs.Prelude.{ℕ, ◌<◌, ◌≤◌, true, ◌≡◌, refl, eqb}
use Rattle.std.proofs.lemmas.Bool.{false≢true}
use mathlib.Core.List.{List, [], ◌∷◌}
use Rattle.std.proofs.Common.{arith}
use Rattle.arith.specs.Cases.{pick, by_eqb}
use Rattle.memory.specs.declared.DeviceAnswer.{DeviceAnswer}
use Rattle.memory.specs.declared.LogicalAddress.{LogicalAddress}
use Rattle.memory.specs.declared.Task.{Task}
use Rattle.plan.specs.declared.records.Plan.{Plan}
use Rattle.rules.specs.Admission.{range_device, job_number, release_number, cancel_number, round_number, admits}
use Rattle.rules.proofs.laws.Admitted.{job_admitted, release_admitted, cancel_admitted}
use Rattle.rules.proofs.laws.Calls.{cancel_passes, release_passes, begin_reachable, begin_tally}
use Rattle.rules.proofs.laws.Close.{TallyFits, tally_stays, halves, close_fits}
use Rattle.rules.proofs.laws.FirstHalf.{first_half_lem}
use Rattle.rules.specs.History.{Call, submit, releases, cancels, asks, round, History, with_core, lent, fresh_history, round_of, submitted, step, run}
use Rattle.rules.proofs.laws.Laws.{Laws}
use Rattle.rules.specs.Layout.{layout_of, layout_at}
use Rattle.rules.proofs.laws.RankLaws.{AgesApart, ages_apart}
use Rattle.rules.specs.Ranks.{ages_after}
use Rattle.rules.proofs.laws.Ranked.{reranked, tally_ranked, waits_kept}
use Rattle.rules.specs.Machine.{Core, is_pending, cancel, begin, release, second_half}
use Rattle.rules.specs.Memory.{Memory}
use Rattle.rules.proofs.laws.Potential.{left_idle}
use Rattle.rules.proofs.laws.Reachable.{Reachable, Passes, passed}
use Rattle.rules.specs.Round.{take_all, round_halves}
use Rattle.rules.proofs.laws.RoundCore.{verdict_at, take_ranked_core, round_core}
use Rattle.rules.proofs.laws.AllPicked.{second_half_lem}
use Rattle.rules.proofs.laws.Suspends.{Started}

-- what holds of every history
pub record HistoryFits (p : Plan) (h : History) : Type 0 where
  pub reachable : Reachable (layout_of p) (admits p) h.core
  pub apart : AgesApart h.ages
  pub tallies : (a : ℕ) → TallyFits (layout_at p h.ages) h.core a (h.tallies a)

module _ (p : Plan) (L : (ages : ℕ → ℕ) → AgesApart ages → Laws (layout_at p ages) (admits p)) where
  -- for this plan
  abbrev Fits : History → Type 0
  Fits = HistoryFits p

  -- with the ranks of a moment, and without
  pub at : (ages : ℕ → ℕ) (c : Core) → Reachable (layout_of p) (admits p) c → Reachable (layout_at p ages) (admits p) c
  at ages c = reranked (layout_of p) (layout_of p).outranks (layout_at p ages).outranks (admits p) c

  out : (ages : ℕ → ℕ) (c : Core) → Reachable (layout_at p ages) (admits p) c → Reachable (layout_of p) (admits p) c
  out ages c = reranked (layout_of p) (layout_at p ages).outranks (layout_of p).outranks (admits p) c

  -- a call that changes the core and counts nothing
  passes_fits : (h : History) (e : Core) → Fits h → Passes (layout_at p h.ages) (admits p) 0 0 h.core e → Fits (with_core e h)
  passes_fits h e f s =
      record {
        reachable = out h.ages e (passed (at h.ages h.core f.reachable) s);
        apart = f.apart;
        tallies = λ a. tally_stays (layout_at p h.ages) (admits p) h.core e a (h.tallies a) (s.areas a) (f.tallies a);
      }

  -- a known area of the plan is one of its layout
  known : (a : ℕ) → a < p.area_count → a < (layout_of p).areas
  unfolding layout_of
  known a h = h

  -- an accepted job
  pub submitted_fits : (a : ℕ) (t : Task) (h : History) → Fits h → job_number p h.core a t ≡ 0 → Fits (submitted p a t h)
  unfolding submitted begin
  submitted_fits a t h f e =
      let m = job_admitted p h.core a t e in
      let l = known a m.0 in
      let after = ages_after a h.ages in
      let apart = ages_apart a h.ages f.apart in
      let r = at after h.core f.reachable in
      record {
        reachable = out after _ (begin_reachable (layout_at p after) (admits p) h.core r (L after apart) a t l m.1 m.2);
        apart = apart;
        tallies = begin_tally (layout_at p after) (admits p) h.core r (L after apart) a t l m.1 m.2 h.tallies
            (λ b. tally_ranked (layout_of p) _ _ h.core b (h.tallies b)
            (waits_kept p h.ages f.apart (admits p) h.core f.reachable a m.1 b) (f.tallies b));
      }

  -- both halves of an accepted round
  pub round_started : (answers : List DeviceAnswer) (m : Memory) (h : History) → Fits h → let l = layout_at p h.ages in
      Started l (admits p) 0 l.devices h.core (round_halves p h.ages answers (lent m h)).core
  round_started answers m h f =
      let l = layout_at p h.ages in
      rw (round_core p answers (lent m h) h.ages)
      (halves l (admits p) (L h.ages f.apart) h.core (at h.ages h.core f.reachable) (verdict_at p answers (lent m h)))

  -- the devices below d have picked
  pub picks_reachable : (answers : List DeviceAnswer) (m : Memory) (h : History) → Fits h → (d : ℕ) → d ≤ p.device_count → let l = layout_at p h.ages in
      Reachable l (admits p) (second_half l d (take_all p answers p.device_count (lent m h)).core)
  unfolding layout_of
  picks_reachable answers m h f d k =
      let l = layout_at p h.ages in
      let r = at h.ages h.core f.reachable in
      let taken = first_half_lem l (admits p) (L h.ages f.apart) (verdict_at p answers (lent m h)) h.core r l.devices in
      let first = passed r taken.passes in
      rw (take_ranked_core p answers (lent m h) h.ages p.device_count)
      (passed first (second_half_lem l (admits p) (L h.ages f.apart) _ first taken.polled d k).passes)

  -- an accepted round
  round_fits : (answers : List DeviceAnswer) (m : Memory) (h : History) → Fits h → Fits (round_of p answers m h)
  unfolding round_of
  round_fits answers m h f =
      let l = layout_at p h.ages in
      let r = at h.ages h.core f.reachable in
      let s = round_started answers m h f in
      record {
        reachable = out h.ages _ (passed r s.passes);
        apart = f.apart;
        tallies = λ a. close_fits l (admits p) (L h.ages f.apart) h.core r _ s a (h.tallies a) (f.tallies a);
      }

  -- it makes no area pending
  pub round_pending : (answers : List DeviceAnswer) (m : Memory) (h : History) → Fits h → (a : ℕ) →
      is_pending ((round_of p answers m h).core.jobs a) ≡ true → is_pending (h.core.jobs a) ≡ true
  unfolding round_of
  round_pending answers m h f a = ((round_started answers m h f).passes.areas a).pending

  -- an accepted release, and an accepted cancel
  pub released : (a : ℕ) (address : LogicalAddress) (n : ℕ) (h : History) → Fits h → release_number p h.core a address n ≡ 0 →
      Passes (layout_at p h.ages) (admits p) 0 0 h.core (release (range_device p a address n) h.core)
  released a address n h f e =
      release_passes (layout_at p h.ages) (admits p) h.core (at h.ages h.core f.reachable) (range_device p a address n) a (release_admitted p h.core a address n e)

  pub cancelled : (a : ℕ) (h : History) → Fits h → cancel_number p h.core a ≡ 0 →
      Passes (layout_at p h.ages) (admits p) 0 0 h.core (cancel (layout_of p) a h.core)
  unfolding cancel
  cancelled a h f e = cancel_passes (layout_at p h.ages) (admits p) h.core (at h.ages h.core f.reachable) a (cancel_admitted p h.core a e)

  -- a refused call returns the history itself
  accepted_fits : (n : ℕ) (g h : History) → (n ≡ 0 → Fits g) → Fits h → Fits (pick (eqb n 0) g h)
  accepted_fits n g h f i = by_eqb n 0 (λ e k. rw e (f k)) (λ e _. rw e i)

  -- every call
  pub step_fits : (x : Call) (h : History) → Fits h → Fits (step p x h)
  unfolding step
  step_fits (submit a t) h f = accepted_fits (job_number p h.core a t) _ h (submitted_fits a t h f) f
  step_fits (releases a address n) h f =
      accepted_fits (release_number p h.core a address n) _ h (λ e. passes_fits h _ f (released a address n h f e)) f
  step_fits (cancels a) h f = accepted_fits (cancel_number p h.core a) _ h (λ e. passes_fits h _ f (cancelled a h f e)) f
  step_fits (asks q) h f = f
  step_fits (round answers m) h f = accepted_fits (round_number p m.image m.store) _ h (λ _. round_fits answers m h f) f

  -- every list of calls
  run_fits : (cs : List Call) (h : History) → Fits h → Fits (run p cs h)
  unfolding run
  run_fits [] h f = f
  run_fits (x ∷ cs) h f = run_fits cs (step p x h) (step_fits x h f)

  -- "At the start nothing runs, is locked or pending, and the numbers are 0."
  pub start_fits : Fits fresh_history
  unfolding fresh_history
  start_fits =
      record {
        reachable = record { devices = λ d. record { state = tt; suspended = tt; apart = tt }; jobs = λ a h. absurd (false≢true h); cancelled = λ a h. absurd (false≢true h) };
        apart = λ a b e. e;
        tallies = λ a. record { sum = refl; by_round_lem = λ _. refl; left = simp left_idle (omega arith) };
      }

  -- every list of calls from the start
  pub history_fits : (cs : List Call) → Fits (run p cs fresh_history)
  history_fits cs = run_fits cs fresh_history start_fits
