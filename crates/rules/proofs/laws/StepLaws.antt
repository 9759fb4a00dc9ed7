-- What one step of a round does to one area, and what it leaves alone.
use Prim.Native.Nat.{ℕ, zero, suc, ◌+◌, ◌≤◌, ◌<◌}
use Rattle.std.specs.Prelude.{Bool, ◌&&◌, List, [], ◌∷◌, ◌++◌, ◌≢◌, ◌≡◌, ltb, eqb, Option, None, Some}
use Rattle.std.proofs.Math.Bool.{true, false}
use Rattle.std.proofs.lemmas.Bool.{false≢true}
use Rattle.std.proofs.Math.Path.{refl, subst}
use Rattle.std.proofs.Common.{sym, ap, ◌∙◌, arith}
use Rattle.arith.specs.Bounded.{below_suc}
use Rattle.arith.specs.Cases.{pick, by_eqb}
use Rattle.arith.specs.Parts.{upd, upd_same, upd_other, upd_case, same_or}
use Rattle.memory.specs.declared.DeviceAnswer.{DeviceAnswer}
use Rattle.plan.specs.declared.records.Plan.{Plan}
use Rattle.segment.specs.Segments.{is_lock, is_erase}
use Rattle.segment.specs.declared.Segment.{Segment}
use Rattle.state.specs.declared.Device.{Device}
use Rattle.state.specs.declared.DeviceState.{DeviceState}
use Rattle.state.specs.declared.SuspendedErase.{SuspendedErase}
use Rattle.state.specs.declared.DeviceState.TheVariants.{Free, Runs, LockedFor}
use Rattle.state.specs.declared.Job.{Job}
use Rattle.rules.specs.Admission.{admits}
use Rattle.rules.proofs.laws.Best.{ready_plain, Ready, best_ready}
use Rattle.rules.specs.Layout.{Layout, layout_of}
use Rattle.rules.specs.Machine.{Core, Verdict, goes_on, finished, differs, failed, due, job_failed, job_finished, job_differs, take_running, take_on, take_answer, set_both, is_pending, need, ended, ready, Choice, nobody, area, best, start_job, start_choice, displaces, erase_or, erase_or_choice, start_over, start_on, start_device, second_half}
use Rattle.rules.proofs.laws.Reachable.{Reachable}
use Rattle.rules.proofs.laws.Requests.{running_on}
use Rattle.rules.specs.Round.{Half, answer_for, verdict_on, add_done, done_on, take_in, take_all}

-- the job whose request takes an answer. Tests: the verdict; are polls below the limit?
abbrev pub job_taken : Layout → ℕ → Verdict → Bool → Job → Job
job_taken p a goes_on true j = j
job_taken p a goes_on false j = job_failed j
job_taken p a finished t j = job_finished p a j
job_taken p a differs t j = job_differs j
job_taken p a failed t j = job_failed j

-- and its done requests
abbrev pub done_taken : Verdict → Segment → List Segment → List Segment
done_taken finished s l = l ++ (s ∷ [])
done_taken goes_on s l = l
done_taken differs s l = l
done_taken failed s l = l

-- the request that runs on device d is area a's
take_mine : (P : Job → List Segment → Type 0) (p : Layout) (d a q : ℕ) (s : Segment) (c : Core) (done : ℕ → List Segment) →
    (v : Verdict) (t : Bool) → P (job_taken p a v t (c.jobs a)) (done_taken v s (done a)) →
    P ((take_running p d a q v t c).jobs a) (add_done v a s done a)
take_mine P p d a q s c done goes_on true k = k
take_mine P p d a q s c done goes_on false k = rw upd_same k
take_mine P p d a q s c done finished t k = simp upd_same k
take_mine P p d a q s c done differs t k = rw upd_same k
take_mine P p d a q s c done failed t k = rw upd_same k

-- or another's
take_other : (P : Job → List Segment → Type 0) (p : Layout) (d a b q : ℕ) (s : Segment) (c : Core) (done : ℕ → List Segment) →
    (v : Verdict) (t : Bool) → (b ≡ a → ⊥) → P (c.jobs a) (done a) → P ((take_running p d b q v t c).jobs a) (add_done v b s done a)
take_other P p d a b q s c done goes_on true f k = k
take_other P p d a b q s c done goes_on false f k = rw upd_other k
take_other P p d a b q s c done finished t f k = simp upd_other k
take_other P p d a b q s c done differs t f k = rw upd_other k
take_other P p d a b q s c done failed t f k = rw upd_other k

module _ (p : Plan) (d : ℕ) (x : DeviceAnswer) (h : Half) (a : ℕ) where
  -- area a's request runs on device d, which takes its answer, or the area stays as it is
  pub take_case : (P : Job → List Segment → Type 0) →
      ((q : ℕ) → (h.core.devices d).state ≡ Runs a q →
      let v = verdict_on p (Runs a q) x h.core.jobs h.memory in
      P (job_taken (layout_of p) a v (ltb (q + 1) ((layout_of p).limit d)) (h.core.jobs a))
      (done_taken v (due (layout_of p) a (h.core.jobs a)) (h.done a))) →
      P (h.core.jobs a) (h.done a) → P ((take_in p d x h).core.jobs a) ((take_in p d x h).done a)
  unfolding take_in take_answer
  take_case P runs rests = go (h.core.devices d).state refl
    where
      s : ℕ → Segment
      s b = due (layout_of p) b (h.core.jobs b)

      v : ℕ → ℕ → Verdict
      v b q = verdict_on p (Runs b q) x h.core.jobs h.memory

      t : ℕ → Bool
      t q = ltb (q + 1) ((layout_of p).limit d)

      After : DeviceState → Type 0
      After y =
          let v = verdict_on p y x h.core.jobs h.memory in
          P ((take_on (layout_of p) d v y h.core).jobs a) (done_on p y v h.core.jobs h.done a)

      go : (y : DeviceState) → (h.core.devices d).state ≡ y → After y
      go Free e = rests
      go (LockedFor b) e = rests
      go (Runs b q) e =
          same_or (λ b. (h.core.devices d).state ≡ Runs b q → After (Runs b q)) a b
          (λ e. take_mine P (layout_of p) d a q (s a) h.core h.done (v a q) (t q) (runs q e))
          (λ f e. take_other P (layout_of p) d a b q (s b) h.core h.done (v b q) (t q) (λ g. f (sym g)) rests)
          e

-- a device's answer leaves the other devices
pub take_leaves : (p : Layout) (d k : ℕ) (v : Verdict) (c : Core) → (d ≡ k → ⊥) → (take_answer p d v c).devices k ≡ c.devices k
unfolding take_answer
take_leaves p d k v c f = go (c.devices d).state
  where
    taken : (a q : ℕ) (v : Verdict) (t : Bool) → (take_running p d a q v t c).devices k ≡ c.devices k
    taken a q goes_on true = upd_other _ d k _ f
    taken a q goes_on false = upd_other _ d k _ f
    taken a q finished t = upd_other _ d k _ f
    taken a q differs t = upd_other _ d k _ f
    taken a q failed t = upd_other _ d k _ f

    go : (y : DeviceState) → (take_on p d v y c).devices k ≡ c.devices k
    go Free = refl
    go (LockedFor a) = refl
    go (Runs a q) = taken a q v _

-- from core c to e device d stays, and so does the job whose request it runs
pub record Untouched (c e : Core) (d : ℕ) : Type 0 where
  pub device : e.devices d ≡ c.devices d
  pub job : (a q : ℕ) → (c.devices d).state ≡ Runs a q → e.jobs a ≡ c.jobs a

module _ (p : Plan) (answers : List DeviceAnswer) (h : Half) (r : Reachable (layout_of p) (admits p) h.core) where
  -- so does every device that is not among those that have taken their answers
  pub untouched : (n d : ℕ) → n ≤ d → Untouched h.core (take_all p answers n h).core d
  unfolding take_all take_in
  untouched zero d l = record { device = refl; job = λ a q e. refl }
  untouched (suc n) d l =
      let before = untouched n d (omega arith) in
      record {
        device = take_leaves _ n d _ _ (λ f. omega arith) ∙ before.device;
        job = λ a q e.
            take_case p n (answer_for answers n) (take_all p answers n h) a (λ j _. j ≡ h.core.jobs a)
            (λ _ f.
            let other = (running_on r (sym (ap (λ x. x.state) (untouched n n (omega arith)).device) ∙ f)).needed in
            absurd (omega (arith, (running_on r e).needed)))
            (before.job a q e);
      }

-- free or running
abbrev pub Unlocked : DeviceState → Type 0
Unlocked Free = Unit {0}
Unlocked (Runs a q) = Unit {0}
Unlocked (LockedFor a) = ⊥

module _ (P : Core → Type 0) (p : Layout) (d : ℕ) (c : Core) where
  -- device d starts nothing, is locked for an area that is ready, or comes to run a request, with or without one suspended
  pub start_case : P c →
      ((a : ℕ) → (c.devices d).state ≡ Free → ready p c d a ≡ true → is_lock (c.jobs a).task.kind ≡ true →
      P (set_both a (ended 0 (c.jobs a)) d (LockedFor a) c)) →
      ((y : Device) → Unlocked (c.devices d).state → P (record { jobs = c.jobs; devices = upd c.devices d y })) → P (start_device p d c)
  unfolding start_device
  start_case stays locks moves = go (c.devices d).state (c.devices d).suspended refl
    where
      given : (a : ℕ) → (c.devices d).state ≡ Free → ready p c d a ≡ true → (t : Bool) → is_lock (c.jobs a).task.kind ≡ t → P (start_job d a t c)
      given a e r true k = locks a e r k
      given a e r false k = moves _ (rw e tt)

      picked : (x : Choice) → (c.devices d).state ≡ Free → Ready p c d x → P (start_choice d x c)
      picked nobody e r = stays
      picked (area a) e r = given a e r _ refl

      erase : (b q : ℕ) → Unlocked (c.devices d).state → (x : Choice) → P (erase_or_choice d b q x c)
      erase b q u nobody = moves _ u
      erase b q u (area a) = test (displaces (c.jobs a).task.kind)
        where
          test : (t : Bool) → P (erase_or d b q a t c)
          test true = moves _ u
          test false = moves _ u

      over : (b q : ℕ) → Unlocked (c.devices d).state → (t : Bool) → P (start_over p d b q t c)
      over b q u true = erase b q u (best p c d p.areas)
      over b q u false = stays

      go : (x : DeviceState) (s : Option SuspendedErase) → (c.devices d).state ≡ x → P (start_on p d x s c)
      go Free None e = picked (best p c d p.areas) e (best_ready p c d p.areas)
      go Free (Some s) e = erase s.area s.polls (rw e tt) (best p c d p.areas)
      go (LockedFor a) s e = stays
      go (Runs b q) None e = over b q (rw e tt) (p.suspends d && is_erase (c.jobs b).task.kind)
      go (Runs b q) (Some s) e = stays

-- ready goes by the job alone
pub same_ready : (p : Layout) (d : ℕ) (x y : Core) (a : ℕ) → y.jobs a ≡ x.jobs a → ready p x d a ≡ true → ready p y d a ≡ true
unfolding ready
same_ready p d x y a e k = rw e k

-- from core x to core y device d stays, and so do the jobs that are ready there; no job becomes pending
pub record Stays (p : Layout) (d : ℕ) (x y : Core) : Type 0 where
  pub device : y.devices d ≡ x.devices d
  pub waiting : (a : ℕ) → ready p x d a ≡ true → y.jobs a ≡ x.jobs a
  pub pending : (a : ℕ) → is_pending (y.jobs a) ≡ true → y.jobs a ≡ x.jobs a

module _ (p : Layout) (d : ℕ) where
  stays : (x : Core) → Stays p d x x
  stays x = record { device = refl; waiting = λ a _. refl; pending = λ a _. refl }

  then : {x y z : Core} → Stays p d x y → Stays p d y z → Stays p d x z
  then {x} {y} s t =
      record {
        device = t.device ∙ s.device;
        waiting = λ a k. let e = s.waiting a k in t.waiting a (same_ready p d x y a e k) ∙ e;
        pending = λ a k. let e = t.pending a k in e ∙ s.pending a (ap is_pending (sym e) ∙ k);
      }

  -- another device has its turn
  other_turn : (n : ℕ) (x : Core) → n ≢ d → Stays p d x (start_device p n x)
  other_turn n x apart =
      start_case (Stays p d x) p n x (stays x)
      (λ b _ k _. record {
        device = upd_other x.devices n d _ apart;
        waiting = λ a w. upd_case (λ j. j ≡ x.jobs a) x.jobs b a _
            (λ g. absurd (apart (sym ((ready_plain p x n b).0 k).1 ∙ ap (λ i. need p i (x.jobs i)) g ∙ ((ready_plain p x d a).0 w).1)))
            (λ _. refl);
        pending = λ a. upd_case (λ j. is_pending j ≡ true → j ≡ x.jobs a) x.jobs b a _ (λ _ i. absurd (false≢true i)) (λ _ _. refl);
      })
      (λ y _. record { device = upd_other x.devices n d y apart; waiting = λ a _. refl; pending = λ a _. refl })

  -- so the devices before it and behind it leave it alone
  pub earlier_turns : (c : Core) (n : ℕ) → n ≤ d → Stays p d c (second_half p n c)
  unfolding second_half
  earlier_turns c zero l = stays c
  earlier_turns c (suc n) l = then (earlier_turns c n (omega arith)) (other_turn n (second_half p n c) (λ e. omega arith))

  pub later_turns : (c : Core) (n : ℕ) → d < n → Stays p d (start_device p d (second_half p d c)) (second_half p n c)
  unfolding second_half
  later_turns c zero l = absurd (omega arith)
  later_turns c (suc n) l =
      below_suc d n l
      (λ e. subst (λ k. Stays p d (start_device p k (second_half p k c)) (second_half p (suc n) c)) (sym e) (stays _))
      (λ k. then (later_turns c n k) (other_turn n (second_half p n c) (λ e. omega arith)))

-- a call is accepted, or refused
pub accept_case : {A : Type 0} (P : A → Type 0) (n : ℕ) {x y : A} → (n ≡ 0 → P x) → P y → P (pick (eqb n 0) x y)
accept_case P n f g = by_eqb n 0 (λ e z. rw e (f z)) (λ e _. rw e g)
