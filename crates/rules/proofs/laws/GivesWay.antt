-- The choice of a device that has an erase, as document 02 words it: the erase's own area is not among the ready. First at the device's
-- turn, then over the whole second half, as the turns of the others leave it alone.
use Rattle.std.specs.Prelude.{ℕ, ◌<◌, Bool, true, false, not, ◌&&◌, List, ◌≢◌, ◌≡◌, refl, eqb, Option, None, Some}
use Rattle.std.proofs.Common.{true≢false, sym, ◌∙◌, le_refl, arith, ne_eqb}
use Rattle.std.proofs.Math.Path.{ap, subst}
use Rattle.arith.specs.Cases.{by_bool, by_eqb, and_elim, and_intro}
use Rattle.arith.specs.Parts.{upd_same}
use Rattle.memory.specs.declared.DeviceAnswer.{DeviceAnswer}
use Rattle.memory.specs.declared.Task.{Task}
use Rattle.plan.specs.declared.records.Plan.{Plan}
use Rattle.segment.specs.Segments.{is_erase, is_lock}
use Rattle.state.specs.Fresh.{free_device}
use Rattle.state.specs.declared.DeviceState.{DeviceState}
use Rattle.state.specs.declared.DeviceState.TheVariants.{Free, Runs, LockedFor}
use Rattle.state.specs.declared.SuspendedErase.{SuspendedErase}
use Rattle.rules.specs.Admission.{round_number, admits}
use Rattle.rules.proofs.laws.Best.{ready_plain, NotBelow, Ready, best_ready}
use Rattle.rules.proofs.laws.BestAbove.{best_not_below}
use Rattle.rules.proofs.laws.Laws.{Laws}
use Rattle.rules.specs.History.{round, History, round_of, step}
use Rattle.rules.specs.Layout.{Layout, layout_at}
use Rattle.rules.specs.Machine.{Core, doing, ready, Choice, nobody, area, best, displaces, start_choice, erase_or, erase_or_choice, start_over, start_on, start_device, second_half}
use Rattle.rules.specs.Memory.{Memory}
use Rattle.rules.proofs.laws.RankLaws.{AgesApart}
use Rattle.rules.proofs.laws.Reachable.{Reachable}
use Rattle.rules.specs.Round.{round_halves}
use Rattle.rules.proofs.laws.Runs.{HistoryFits, picks_reachable}
use Rattle.rules.proofs.laws.OverErase.{kinds}
use Rattle.rules.specs.statements.Moments.{moment_of}
use Rattle.rules.specs.statements.Order.{Highest, Picks, ready_beside, Qualifies, Erasing, running, suspended, GivesWay}
use Rattle.rules.specs.statements.Statements.{answered_core, FirstCome}
use Rattle.rules.proofs.laws.StepLaws.{same_ready, Stays, earlier_turns, later_turns}

-- what runs over a suspended erase outranks its area
abbrev pub Over : Layout → DeviceState → Option SuspendedErase → Type 0
Over p x None = Unit {0}
Over p (Runs a q) (Some s) = p.outranks a s.area ≡ true
Over p Free (Some s) = ⊥
Over p (LockedFor a) (Some s) = ⊥

-- device d, which has area b's erase, has its turn
pub record Turn (p : Layout) (c : Core) (d b polls : ℕ) : Type 0 where
  gives_way : (a : ℕ) → Qualifies p c d b a → (start_device p d c).devices d ≡ record { state = Runs a 0; suspended = Some (record { area = b; polls = polls }) }
  goes_on : ((a : ℕ) → Qualifies p c d b a → ⊥) → (start_device p d c).devices d ≡ record { state = Runs b polls; suspended = None }
  jobs : (start_device p d c).jobs ≡ c.jobs
  pub over : let x = (start_device p d c).devices d in Over p x.state x.suspended

module _ (p : Layout) (admits : ℕ → Task → Bool) (L : Laws p admits) (one : (a b : ℕ) → a ≢ b → p.outranks a b ≡ not (p.outranks b a))
    (c : Core) (r : Reachable p admits c) (d : ℕ) where
  -- of two areas not both are above
  not_both : (a i : ℕ) → a ≢ i → p.outranks a i ≡ true → p.outranks i a ≡ true → ⊥
  not_both a i apart e f = true≢false (sym e ∙ one a i apart ∙ ap not f)

  known_ready : (a : ℕ) → ready p c d a ≡ true → a < p.areas
  known_ready a e = (r.jobs a ((ready_plain p c d a).0 e).0).known

  choice : Choice
  choice = best p c d p.areas

  choice_is_ready : (a : ℕ) → choice ≡ area a → ready p c d a ≡ true
  unfolding choice
  choice_is_ready a e = subst (Ready p c d) e (best_ready p c d p.areas)

  not_below : (x : Choice) → choice ≡ x → (i : ℕ) → ready p c d i ≡ true → NotBelow p x i
  unfolding choice
  not_below x e i k = subst (λ y. NotBelow p y i) e (best_not_below p admits L c d p.areas i (known_ready i k) k)

  -- the highest ranked of the ready is the one chosen
  highest_chosen : (a : ℕ) → Highest p (ready p c d) a → choice ≡ area a
  highest_chosen a k = go choice refl
    where
      go : (x : Choice) → choice ≡ x → x ≡ area a
      go nobody e = absurd (not_below nobody e a k.ready_itself)
      go (area i) e =
          by_eqb i a (λ _ g. ap area g)
          (λ _ z. absurd (not_both i a z (not_below (area i) e a k.ready_itself z)
          (k.above_others i (known_ready i (choice_is_ready i e)) (choice_is_ready i e) z)))

  -- nobody is, where nobody is ready
  none_chosen : ((a : ℕ) → a < p.areas → ready p c d a ≡ false) → choice ≡ nobody
  none_chosen f = go choice refl
    where
      go : (x : Choice) → choice ≡ x → x ≡ nobody
      go nobody e = refl
      go (area a) e = let k = choice_is_ready a e in absurd (true≢false (sym k ∙ f a (known_ready a k)))

  -- a free device has its turn
  free_turn : c.devices d ≡ free_device → start_device p d c ≡ start_choice d choice c
  unfolding start_device choice
  free_turn e = rw e

  -- every device, but where an erase runs or is suspended
  pub picks_turn : Picks p c (start_device p d c) d
  unfolding start_device
  picks_turn =
      record {
        starts = λ a e k no. ap (λ x. x.devices d) (free_turn e ∙ ap (λ x. start_choice d x c) (highest_chosen a k)) ∙ rw (no, upd_same) (ap (doing (Runs a 0)) e);
        gives_lock = λ a e k yes. ap (λ x. x.devices d) (free_turn e ∙ ap (λ x. start_choice d x c) (highest_chosen a k)) ∙ rw (yes, upd_same) (ap (doing (LockedFor a)) e);
        nobody = λ e f. ap (λ x. x.devices d) (free_turn e ∙ ap (λ x. start_choice d x c) (none_chosen f)) ∙ e;
        locked = λ b e. ap (λ x. x.devices d) (ap (λ s. start_on p d s (c.devices d).suspended c) e);
      }

  module _ (b : ℕ) where
    beside : (a : ℕ) → ready_beside p c d b a ≡ true → ready p c d a ≡ true
    beside a e = (and_elim (ready p c d a) (not (eqb a b)) e).0

    -- the erase's own area is pending and needs the device
    module _ (erases : is_erase (c.jobs b).task.kind ≡ true) (own : ready p c d b ≡ true) where
      -- the highest ranked of all, if it displaces an erase, is the one that qualifies
      qualifies : (a : ℕ) → choice ≡ area a → displaces (c.jobs a).task.kind ≡ true → Qualifies p c d b a
      qualifies a e k =
          let no = kinds (c.jobs a).task.kind k in
          let apart : a ≢ b = λ g. true≢false (sym erases ∙ ap (λ i. is_erase (c.jobs i).task.kind) (sym g) ∙ no.0) in
          record {
            highest =
                record {
                  known = known_ready a (choice_is_ready a e);
                  ready_itself = and_intro (choice_is_ready a e) (ap not (ne_eqb a b apart));
                  above_others = λ i _ k z. not_below (area a) e i (beside i k) (λ g. z (sym g));
                };
            above = not_below (area a) e b own apart;
            no_erase = no.0;
            no_lock = no.1;
          }

      chosen : (a : ℕ) → Qualifies p c d b a → choice ≡ area a
      chosen a k = go choice refl
        where
          go : (x : Choice) → choice ≡ x → x ≡ area a
          go nobody e = absurd (not_below nobody e a (beside a k.highest.ready_itself))
          go (area i) e =
              by_eqb i a (λ _ g. ap area g)
              (λ _ z.
              let up = not_below (area i) e a (beside a k.highest.ready_itself) z in
              absurd (by_eqb i b
              (λ _ g. not_both i a z up (subst (λ n. p.outranks a n ≡ true) (sym g) k.above))
              (λ f g. not_both i a z up
              (k.highest.above_others i (known_ready i (choice_is_ready i e)) (and_intro (choice_is_ready i e) (ap not f)) z))))

      -- so the erase gives way, or goes on
      by_choice : (q : ℕ) → start_device p d c ≡ erase_or_choice d b q choice c → Turn p c d b q
      by_choice q e =
          record {
            gives_way = λ a k. ap (λ x. x.devices d) (e ∙ ap (λ x. erase_or_choice d b q x c) (chosen a k)) ∙ displaced a k.no_erase k.no_lock;
            goes_on = λ none. ap (λ x. x.devices d) e ∙ kept none choice refl;
            jobs = ap (λ x. x.jobs) e ∙ same_jobs choice;
            over = subst (λ x. Over p (x.devices d).state (x.devices d).suspended) (sym e) (above_it choice refl);
          }
        where
          displaced : (a : ℕ) → is_erase (c.jobs a).task.kind ≡ false → is_lock (c.jobs a).task.kind ≡ false →
              (erase_or_choice d b q (area a) c).devices d ≡ record { state = Runs a 0; suspended = Some (record { area = b; polls = q }) }
          displaced a f g = rw (f, g) (upd_same c.devices d _)

          kept : ((a : ℕ) → Qualifies p c d b a → ⊥) → (x : Choice) → choice ≡ x →
              (erase_or_choice d b q x c).devices d ≡ record { state = Runs b q; suspended = None }
          kept none nobody f = upd_same c.devices d _
          kept none (area a) f = test (displaces (c.jobs a).task.kind) refl
            where
              test : (t : Bool) → displaces (c.jobs a).task.kind ≡ t → (erase_or d b q a t c).devices d ≡ record { state = Runs b q; suspended = None }
              test true g = absurd (none a (qualifies a f g))
              test false g = upd_same c.devices d _

          above_it : (x : Choice) → choice ≡ x → let y = (erase_or_choice d b q x c).devices d in Over p y.state y.suspended
          above_it nobody f = rw upd_same tt
          above_it (area a) f = test (displaces (c.jobs a).task.kind) refl
            where
              test : (t : Bool) → displaces (c.jobs a).task.kind ≡ t → let y = (erase_or d b q a t c).devices d in Over p y.state y.suspended
              test true g = rw upd_same (qualifies a f g).above
              test false g = rw upd_same tt

          same_jobs : (x : Choice) → (erase_or_choice d b q x c).jobs ≡ c.jobs
          same_jobs nobody = refl
          same_jobs (area a) = test (displaces (c.jobs a).task.kind)
            where
              test : (t : Bool) → (erase_or d b q a t c).jobs ≡ c.jobs
              test true = refl
              test false = refl

    -- either way to have an erase its area is pending and needs the device
    own_ready : (q : ℕ) → Erasing p c d b q → ready p c d b ≡ true
    own_ready q (running e can k) = let run = rw e at (r.devices d).state in (ready_plain p c d b).1 (run.pending, run.needed)
    own_ready q (suspended e) = let keep = rw e at (r.devices d).suspended in (ready_plain p c d b).1 (keep.pending, keep.needed)

    pub erase_turn : (q : ℕ) → Erasing p c d b q → Turn p c d b q
    unfolding start_device choice
    erase_turn q (running e can k) = by_choice k (own_ready q (running e can k)) q (rw (e, can, k))
    erase_turn q (suspended e) = by_choice (rw e at (r.devices d).suspended).erases (own_ready q (suspended e)) q (rw e)

-- whatever else runs goes on
other_runs : (p : Layout) (c : Core) (d b q : ℕ) → (c.devices d).state ≡ Runs b q → (Erasing p c d b q → ⊥) → (start_device p d c).devices d ≡ c.devices d
unfolding start_device
other_runs p c d b q e other = ap (λ s. (start_on p d s (c.devices d).suspended c).devices d) e ∙ go (c.devices d).suspended refl
  where
    test : (t : Bool) → (p.suspends d && is_erase (c.jobs b).task.kind) ≡ t → (c.devices d).suspended ≡ None →
        (start_over p d b q t c).devices d ≡ c.devices d
    test true f k =
        let (can, erases) = and_elim (p.suspends d) (is_erase (c.jobs b).task.kind) f in
        absurd (other (running (λ i. record { state = e i; suspended = k i }) can erases))
    test false f k = refl

    go : (s : Option SuspendedErase) → (c.devices d).suspended ≡ s → (start_on p d (Runs b q) s c).devices d ≡ c.devices d
    go None k = test (p.suspends d && is_erase (c.jobs b).task.kind) refl k
    go (Some s) k = refl

module _ (p : Layout) (d : ℕ) where
  -- the same jobs are ready in both
  abbrev ReadyIn : Core → Core → Type 0
  ReadyIn u v = (a : ℕ) → ready p u d a ≡ true → (ready p v d a ≡ true) × (v.jobs a ≡ u.jobs a)

  ready_in_lem : {x y : Core} → Stays p d x y → ReadyIn x y × ReadyIn y x
  ready_in_lem {x} {y} s = (
    λ a k. let e = s.waiting a k in (same_ready p d x y a e k, e),
    λ a k. let e = sym (s.pending a ((ready_plain p y d a).0 k).0) in (same_ready p d y x a e k, e),
  )

  still_qualifies : {u v : Core} → ReadyIn u v → ReadyIn v u → (b a : ℕ) → Qualifies p u d b a → Qualifies p v d b a
  still_qualifies {u} {v} f g b a k =
      let is_ready = and_elim (ready p u d a) (not (eqb a b)) k.highest.ready_itself in
      let same = f a is_ready.0 in
      record {
        highest =
            record {
              known = k.highest.known;
              ready_itself = and_intro same.0 is_ready.1;
              above_others = λ i l h.
                  let other = and_elim (ready p v d i) (not (eqb i b)) h in
                  k.highest.above_others i l (and_intro (g i other.0).0 other.1);
            };
        above = k.above;
        no_erase = ap (λ j. is_erase j.task.kind) same.1 ∙ k.no_erase;
        no_lock = ap (λ j. is_lock j.task.kind) same.1 ∙ k.no_lock;
      }

  still_highest : (u v : Core) → ReadyIn u v → ReadyIn v u → (a : ℕ) → Highest p (ready p u d) a → Highest p (ready p v d) a
  still_highest u v f g a k =
      record { known = k.known; ready_itself = (f a k.ready_itself).0; above_others = λ i l h. k.above_others i l (g i h).0 }

  still_erasing : {u v : Core} → v.devices d ≡ u.devices d → (b q : ℕ) → (v.jobs b ≡ u.jobs b) → Erasing p u d b q → Erasing p v d b q
  still_erasing e b q j (running f can k) = running (e ∙ f) can (ap (λ x. is_erase x.task.kind) j ∙ k)
  still_erasing e b q j (suspended f) = suspended (e ∙ f)

-- the whole second half, of the devices below n
module _ (p : Layout) (admits : ℕ → Task → Bool) (L : Laws p admits) (one : (a b : ℕ) → a ≢ b → p.outranks a b ≡ not (p.outranks b a)) (c : Core)
    (r : Reachable p admits c) (d : ℕ) (turn : Reachable p admits (second_half p d c)) (n : ℕ) (l : d < n) where
  -- the devices before it have had their turn
  at_turn : Core
  at_turn = second_half p d c

  to : Stays p d c at_turn
  unfolding at_turn
  to = earlier_turns p d c d (le_refl d)

  from : Stays p d (start_device p d at_turn) (second_half p n c)
  unfolding at_turn
  from = later_turns p d c n l

  picks : (b q : ℕ) → Erasing p c d b q → Turn p at_turn d b q
  unfolding at_turn
  picks b q e = erase_turn p admits L one at_turn turn d b q (still_erasing p d to.device b q (to.waiting b (own_ready p admits L one c r d b q e)) e)

  -- of the areas whose job is ready there the kind stays
  same_kind : (a : ℕ) → Highest p (ready p c d) a → at_turn.jobs a ≡ c.jobs a
  same_kind a k = to.waiting a k.ready_itself

  still_unready : ((a : ℕ) → a < p.areas → ready p c d a ≡ false) → (a : ℕ) → a < p.areas → ready p at_turn d a ≡ false
  unfolding at_turn
  still_unready f a l =
      by_bool (ready p at_turn d a) (λ e. absurd (true≢false (sym ((ready_in_lem p d to).1 a e).0 ∙ f a l))) (λ e. e)

  half_picks : Picks p c (second_half p n c) d
  unfolding at_turn
  half_picks =
      let both = ready_in_lem p d to in
      let turns = picks_turn p admits L one at_turn turn d in
      let kind : (a : ℕ) → Highest p (ready p c d) a → is_lock (at_turn.jobs a).task.kind ≡ is_lock (c.jobs a).task.kind
      = λ a k. ap (λ j. is_lock j.task.kind) (same_kind a k) in
      record {
        starts = λ a e k no. from.device ∙ turns.starts a (to.device ∙ e) (still_highest p d c at_turn both.0 both.1 a k) (kind a k ∙ no);
        gives_lock = λ a e k yes. from.device ∙ turns.gives_lock a (to.device ∙ e) (still_highest p d c at_turn both.0 both.1 a k) (kind a k ∙ yes);
        nobody = λ e f. from.device ∙ turns.nobody (to.device ∙ e) (still_unready f);
        locked = λ b e. from.device ∙ turns.locked b (ap (λ x. x.state) to.device ∙ e) ∙ to.device;
      }

  half_gives_way : GivesWay p c (second_half p n c) d
  unfolding at_turn
  half_gives_way =
      let both = ready_in_lem p d to in
      record {
        gives_way = λ b q a e k. from.device ∙ (picks b q e).gives_way a (still_qualifies p d both.0 both.1 b a k);
        goes_on = λ b q e none. from.device ∙ (picks b q e).goes_on (λ a k. none a (still_qualifies p d both.1 both.0 b a k));
        jobs = λ b q a e k.
            let same = ap (λ f. f a) (picks b q e).jobs ∙ to.waiting a k in
            from.waiting a (same_ready p d c (start_device p d at_turn) a same k) ∙ same;
        runs_on = λ b q e other.
            from.device
            ∙ other_runs p at_turn d b q (ap (λ y. y.state) to.device ∙ e)
            (λ f. other (still_erasing p d (sym to.device) b q (both.1 b (own_ready p admits L one at_turn turn d b q f)).1 f))
            ∙ to.device;
      }

-- a device in the second half of every accepted round of a history
pub round_picks : (p : Plan) (L : (ages : ℕ → ℕ) → AgesApart ages → Laws (layout_at p ages) (admits p)) (h : History) → HistoryFits p h →
    FirstCome p (moment_of p h) → (answers : List DeviceAnswer) (m : Memory) → round_number p m.image m.store ≡ 0 → (d : ℕ) → d < p.device_count →
    let c = answered_core p h answers m in let e = (step p (round answers m) h).core in
    Picks (layout_at p h.ages) c e d × GivesWay (layout_at p h.ages) c e d
unfolding step round_of round_halves second_half
round_picks p L h f order answers m e d l =
    let reach = picks_reachable p L answers m h f in
    let laws = L h.ages f.apart in
    rw e (
      half_picks (layout_at p h.ages) (admits p) laws order.one_above _ (reach 0 (omega arith)) d (reach d (omega arith)) p.device_count l,
      half_gives_way (layout_at p h.ages) (admits p) laws order.one_above _ (reach 0 (omega arith)) d (reach d (omega arith)) p.device_count l,
    )
