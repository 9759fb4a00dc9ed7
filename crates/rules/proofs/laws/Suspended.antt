-- What runs over a suspended erase outranks its area, after every list of calls: so the area counts above, and its request does not run.
use Prim.Native.Nat.{ℕ, zero, suc, ◌+◌, ◌<◌}
use Rattle.std.specs.Prelude.{Bool, not, ◌&&◌, ◌≢◌, ◌≡◌, Option, None, Some}
use Rattle.std.proofs.Math.Bool.{true, false}
use mathlib.Core.List.{List, [], ◌∷◌}
use Rattle.std.proofs.Math.Path.{refl}
use Rattle.std.proofs.Common.{sym, ap, subst, ◌∙◌, le_refl, arith}
use borrow.Author.Tests.{ne_eqb}
use Rattle.arith.specs.Cases.{and_elim}
use Rattle.arith.specs.Parts.{upd, upd_same, upd_case}
use Rattle.memory.specs.declared.DeviceAnswer.{DeviceAnswer}
use Rattle.memory.specs.declared.Task.{Task}
use Rattle.plan.specs.declared.records.Plan.{Plan}
use Rattle.segment.specs.Segments.{is_erase, is_lock}
use Rattle.state.specs.declared.Device.{Device}
use Rattle.state.specs.declared.DeviceState.{DeviceState}
use Rattle.state.specs.declared.DeviceState.TheVariants.{Free, Runs, LockedFor}
use Rattle.state.specs.declared.SuspendedErase.{SuspendedErase}
use Rattle.rules.specs.Admission.{job_number, release_number, cancel_number, round_number, range_device, admits}
use Rattle.rules.proofs.laws.Admitted.{release_admitted}
use Rattle.rules.proofs.laws.FirstCome.{first_come}
use Rattle.rules.proofs.laws.GivesWay.{Over, erase_turn}
use Rattle.rules.specs.History.{Call, submit, releases, cancels, asks, round, History, lent, fresh_history, round_of, submitted, step, run}
use Rattle.rules.proofs.laws.Laws.{Laws}
use Rattle.rules.specs.Layout.{Layout, layout_of, layout_at}
use Rattle.rules.specs.Machine.{Core, Verdict, goes_on, finished, differs, failed, need, take_running, take_on, take_answer, first_half, Choice, nobody, area, best, start_job, start_choice, start_over, start_on, start_device, second_half, wait_behind, holds, cancel_if, cancel, begin, release}
use Rattle.rules.specs.Memory.{Memory}
use Rattle.rules.specs.Queries.{job_info_of}
use Rattle.rules.proofs.laws.Ranked.{reranked}
use Rattle.rules.proofs.laws.RankLaws.{AgesApart}
use Rattle.rules.proofs.laws.Reachable.{Running, Suspending, Apart, Reachable, need_known}
use Rattle.rules.specs.Round.{round_halves}
use Rattle.rules.proofs.laws.RoundCore.{verdict_at, take_ranked_core}
use Rattle.rules.proofs.laws.Runs.{HistoryFits, picks_reachable, history_fits}
use Rattle.rules.specs.statements.Order.{running, suspended}
use Rattle.rules.specs.statements.Statements.{NotRunning, SuspendedNotRunning}
use Rattle.rules.proofs.laws.StepLaws.{accept_case, earlier_turns, later_turns}

-- between the halves of a round what ran over the erase may have ended
abbrev Between : Layout → DeviceState → Option SuspendedErase → Type 0
Between p x None = Unit {0}
Between p Free (Some s) = Unit {0}
Between p (Runs a q) (Some s) = p.outranks a s.area ≡ true
Between p (LockedFor a) (Some s) = ⊥

abbrev BetweenOn : Layout → Device → Type 0
BetweenOn p x = Between p x.state x.suspended

abbrev OverOn : Layout → Device → Type 0
OverOn p x = Over p x.state x.suspended

over_between : (p : Layout) (x : DeviceState) (s : Option SuspendedErase) → Over p x s → Between p x s
over_between p x None h = tt
over_between p Free (Some s) h = tt
over_between p (Runs a q) (Some s) h = h
over_between p (LockedFor a) (Some s) h = h

-- a device takes its answer
module _ (p : Layout) where
  free_between : (s : Option SuspendedErase) → Between p Free s
  free_between None = tt
  free_between (Some s) = tt

  polled_between : (a q r : ℕ) (s : Option SuspendedErase) → Between p (Runs a q) s → Between p (Runs a r) s
  polled_between a q r None h = tt
  polled_between a q r (Some s) h = h

  take_between : (d : ℕ) (v : Verdict) (c : Core) (k : ℕ) → BetweenOn p (c.devices k) → BetweenOn p ((take_answer p d v c).devices k)
  unfolding take_answer
  take_between d v c k h = go (c.devices d).state refl
    where
      ends : BetweenOn p (upd c.devices d (record { state = Free; suspended = (c.devices d).suspended }) k)
      ends = upd_case (BetweenOn p) c.devices d k _ (λ _. free_between (c.devices d).suspended) (λ _. h)

      taken : (a q : ℕ) → (c.devices d).state ≡ Runs a q → (v : Verdict) (t : Bool) → BetweenOn p ((take_running p d a q v t c).devices k)
      taken a q e goes_on true =
          upd_case (BetweenOn p) c.devices d k _
          (λ f. polled_between a q (q + 1) (c.devices d).suspended (subst (λ x. Between p x (c.devices d).suspended) e (subst (λ n. BetweenOn p (c.devices n)) (sym f) h)))
          (λ _. h)
      taken a q e goes_on false = ends
      taken a q e finished t = ends
      taken a q e differs t = ends
      taken a q e failed t = ends

      go : (x : DeviceState) → (c.devices d).state ≡ x → BetweenOn p ((take_on p d v x c).devices k)
      go Free e = h
      go (LockedFor a) e = h
      go (Runs a q) e = taken a q e v _

  first_between : (v : ℕ → Verdict) (n : ℕ) (c : Core) (k : ℕ) → BetweenOn p (c.devices k) → BetweenOn p ((first_half p v n c).devices k)
  unfolding first_half
  first_between v zero c k h = h
  first_between v (suc n) c k h = take_between n (v n) (first_half p v n c) k (first_between v n c k h)

-- a device picks
module _ (p : Layout) (admits : ℕ → Task → Bool) (L : Laws p admits) (one : (a b : ℕ) → a ≢ b → p.outranks a b ≡ not (p.outranks b a)) where
  turn_over : (c : Core) → Reachable p admits c → (d : ℕ) → BetweenOn p (c.devices d) → OverOn p ((start_device p d c).devices d)
  unfolding start_device
  turn_over c r d = go (c.devices d).state (c.devices d).suspended refl refl
    where
      starts_job : (c.devices d).suspended ≡ None → (x : Choice) → OverOn p ((start_choice d x c).devices d)
      starts_job k nobody = rw k tt
      starts_job k (area a) = lock (is_lock (c.jobs a).task.kind)
        where
          lock : (t : Bool) → OverOn p ((start_job d a t c).devices d)
          lock true = rw (upd_same, k) tt
          lock false = rw (upd_same, k) tt

      stays : (x : DeviceState) (s : Option SuspendedErase) → (c.devices d).state ≡ x → (c.devices d).suspended ≡ s → Over p x s → OverOn p (c.devices d)
      stays x s e k h = rw (e, k) h

      over : (b q : ℕ) → (c.devices d).state ≡ Runs b q → (c.devices d).suspended ≡ None → (t : Bool) →
          (p.suspends d && is_erase (c.jobs b).task.kind) ≡ t → OverOn p ((start_over p d b q t c).devices d)
      over b q e k true f =
          let both = and_elim (p.suspends d) (is_erase (c.jobs b).task.kind) f in
          subst (λ (x : Core). OverOn p (x.devices d)) ((λ i. start_on p d (e i) (k i) c) ∙ ap (λ t. start_over p d b q t c) f)
          (erase_turn p admits L one c r d b q (running (λ i. record { state = e i; suspended = k i }) both.0 both.1)).over
      over b q e k false f = stays (Runs b q) None e k tt

      go : (x : DeviceState) (s : Option SuspendedErase) → (c.devices d).state ≡ x → (c.devices d).suspended ≡ s → Between p x s → OverOn p ((start_on p d x s c).devices d)
      go Free None e k h = starts_job k (best p c d p.areas)
      go Free (Some s) e k h =
          subst (λ (x : Core). OverOn p (x.devices d)) (λ i. start_on p d (e i) (k i) c)
          (erase_turn p admits L one c r d s.area s.polls (suspended (λ i. record { state = e i; suspended = k i }))).over
      go (LockedFor a) None e k h = stays (LockedFor a) None e k tt
      go (LockedFor a) (Some s) e k h = absurd h
      go (Runs b q) None e k h = over b q e k (p.suspends d && is_erase (c.jobs b).task.kind) refl
      go (Runs a q) (Some s) e k h = stays (Runs a q) (Some s) e k h

  -- all devices pick
  second_over : (c : Core) → ((k : ℕ) → k < p.devices → Reachable p admits (second_half p k c)) → (k : ℕ) → k < p.devices → BetweenOn p (c.devices k) →
      OverOn p ((second_half p p.devices c).devices k)
  second_over c reach k l h =
      subst (OverOn p) (sym (later_turns p k c p.devices l).device)
      (turn_over (second_half p k c) (reach k l) k (subst (BetweenOn p) (sym (earlier_turns p k c k (le_refl k)).device) h))

-- over a history
module _ (p : Plan) (L : (ages : ℕ → ℕ) → AgesApart ages → Laws (layout_at p ages) (admits p)) where
  abbrev OverAt : ℕ → History → Type 0
  OverAt d h = OverOn (layout_at p h.ages) (h.core.devices d)

  abbrev AllOver : History → Type 0
  AllOver h = (d : ℕ) → d < p.device_count → OverAt d h

  -- what runs and what is suspended is pending, and the rank of two pending areas stays
  module _ (h : History) (f : HistoryFits p h) where
    kept_over : (k : Call) (d : ℕ) → (step p k h).core.devices d ≡ h.core.devices d → OverAt d h → OverAt d (step p k h)
    kept_over k d same = subst (λ x. OverAt d h → OverOn (layout_at p (step p k h).ages) x) (sym same) (go (h.core.devices d).state (h.core.devices d).suspended refl refl)
      where
        go : (x : DeviceState) (s : Option SuspendedErase) → (h.core.devices d).state ≡ x → (h.core.devices d).suspended ≡ s →
            Over (layout_at p h.ages) x s → Over (layout_at p (step p k h).ages) x s
        go x None e g o = tt
        go Free (Some s) e g o = o
        go (LockedFor a) (Some s) e g o = o
        go (Runs a q) (Some s) e g o =
            let run : Running (layout_of p) d a q (h.core.jobs a) = rw e at (f.reachable.devices d).state in
            let keep : Suspending (layout_of p) d s.area s.polls (h.core.jobs s.area) = rw g at (f.reachable.devices d).suspended in
            (first_come p h f.apart).kept k a s.area run.pending keep.pending ∙ o

    -- both halves of a round
    round_over : (answers : List DeviceAnswer) (m : Memory) → AllOver h → AllOver (round_of p answers m h)
    unfolding round_of round_halves layout_of
    round_over answers m o d l =
        let ranks = layout_at p h.ages in
        second_over ranks (admits p) (L h.ages f.apart) (first_come p h f.apart).one_above _
        (λ k g. picks_reachable p L answers m h f k (omega arith)) d l
        (rw (take_ranked_core p answers (lent m h) h.ages p.device_count)
        (first_between ranks (verdict_at p answers (lent m h)) p.device_count h.core d (over_between ranks (h.core.devices d).state (h.core.devices d).suspended (o d l))))

    -- a lock is released: nothing is suspended there
    release_over : (d a k : ℕ) → (h.core.devices d).state ≡ LockedFor a → OverAt k h → OverOn (layout_at p h.ages) ((release d h.core).devices k)
    unfolding release
    release_over d a k e o =
        upd_case (OverOn (layout_at p h.ages)) h.core.devices d k _
        (λ g. unlocked (h.core.devices d).suspended (rw e at (subst (λ n. OverAt n h) (sym g) o)))
        (λ _. o)
      where
        unlocked : (s : Option SuspendedErase) → Over (layout_at p h.ages) (LockedFor a) s → Over (layout_at p h.ages) Free s
        unlocked None i = tt
        unlocked (Some s) i = i

    -- every call
    step_over : (k : Call) → AllOver h → AllOver (step p k h)
    unfolding step submitted begin cancel
    step_over (submit a t) o d l =
        kept_over (submit a t) d (accept_case (λ (e : History). e.core.devices d ≡ h.core.devices d) (job_number p h.core a t) (λ _. refl) refl) (o d l)
    step_over (releases a address n) o d l =
        accept_case (OverAt d) (release_number p h.core a address n)
        (λ e. release_over (range_device p a address n) a d (release_admitted p h.core a address n e) (o d l))
        (o d l)
    step_over (cancels a) o d l =
        kept_over (cancels a) d
        (accept_case (λ (e : History). e.core.devices d ≡ h.core.devices d) (cancel_number p h.core a)
        (λ _. leaves (holds a (h.core.devices (need (layout_of p) a (h.core.jobs a))))) refl)
        (o d l)
      where
        leaves : (t : Bool) → (cancel_if t a h.core).devices d ≡ h.core.devices d
        leaves true = refl
        leaves false = refl
    step_over (asks q) o d l = o d l
    step_over (round answers m) o d l = accept_case (OverAt d) (round_number p m.image m.store) (λ _. round_over answers m o d l) (o d l)

    -- a suspended erase
    not_running : AllOver h → SuspendedNotRunning p h
    unfolding layout_of wait_behind job_info_of
    not_running o d b n e =
        let ranks = layout_at p h.ages in
        let r = reranked (layout_of p) (layout_of p).outranks ranks.outranks (admits p) h.core f.reachable in
        let keep : Suspending ranks d b n (h.core.jobs b) = rw e at (r.devices d).suspended in
        let known : need ranks b (h.core.jobs b) < p.device_count = need_known (L h.ages f.apart) (r.jobs b keep.pending) in
        go (h.core.devices d).state refl keep.needed (rw e at (o d (rw keep.needed at known))) (rw e at (r.devices d).apart)
      where
        go : (x : DeviceState) → (h.core.devices d).state ≡ x → need (layout_of p) b (h.core.jobs b) ≡ d → Over (layout_at p h.ages) x (Some (record { area = b; polls = n })) →
            Apart x (Some (record { area = b; polls = n })) → NotRunning p h b
        go Free i g v apart = absurd v
        go (LockedFor a) i g v apart = absurd v
        go (Runs a q) i g v apart =
            record { waits = rw (g, i, ne_eqb a b apart, v); request = λ w. rw (g, i, ne_eqb a b apart) }

  -- every list of calls
  runs_over : (cs : List Call) (h : History) → ((ds : List Call) → HistoryFits p (run p ds h)) → AllOver h → AllOver (run p cs h)
  unfolding run
  runs_over [] h f o = o
  runs_over (k ∷ ks) h f o = runs_over ks (step p k h) (λ ds. f (k ∷ ds)) (step_over h (f []) k o)

  pub suspended_waits : (cs : List Call) → SuspendedNotRunning p (run p cs fresh_history)
  unfolding fresh_history
  suspended_waits cs = not_running (run p cs fresh_history) (history_fits p L cs) (runs_over cs fresh_history (history_fits p L) (λ d l. tt))
