-- The second half of a round: the code's choice is that of the rules.
use Prim.Native.Nat.{ℕ, zero, suc, ◌+◌, ◌≤◌, ◌<◌}
use Rattle.std.specs.Prelude.{Bool, true, ◌&&◌, List, ◌≡◌, ltb, length, get_or, set, Option, None, Some}
use Rattle.std.proofs.lemmas.Bool.{false≢true}
use Rattle.std.proofs.Math.Path.{refl, ap}
use Rattle.std.proofs.Common.{sym, subst, ◌∙◌, add-one, lt-ltb}
use native.Mathlib.Omega.{arith}
use Rattle.arith.specs.Cases.{pick, by_bool, by_ltb}
use Rattle.arith.specs.Parts.{upd}
use Rattle.devices.specs.laws.ArrayLaws.{job_past}
use Rattle.machine.specs.laws.Dues.{runner_of}
use Rattle.devices.specs.Arrays.{job_in, device_in, state_in, core_in}
use Rattle.plan.specs.Questions.{area_of, device_of}
use Rattle.plan.specs.declared.records.AreaRecord.{AreaRecord}
use Rattle.plan.specs.declared.records.DeviceRecord.{DeviceRecord}
use Rattle.rules.specs.Layout.{Layout}
use Rattle.rules.specs.Machine.{Core, doing, Choice, nobody, area, ready, better, best, displaces, start_job, start_choice, erase_or, erase_or_choice, start_on, start_device, second_half}
use Rattle.rules.specs.Ranks.{rank_above, ranks_above}
use Rattle.segment.specs.Segments.{is_lock, is_erase}
use Rattle.state.specs.Ages.{age_in}
use Rattle.state.specs.Fresh.{fresh_area, free_device}
use Rattle.state.specs.declared.Area.{Area}
use Rattle.state.specs.declared.Device.{Device}
use Rattle.state.specs.declared.DeviceState.{DeviceState}
use Rattle.state.specs.declared.DeviceState.TheVariants.{Free, Runs, LockedFor}
use Rattle.state.specs.declared.SuspendedErase.{SuspendedErase}
use Rattle.rounds.specs.laws.AnswerLaws.{core_set, device_changed, core_kept}
use Rattle.close.specs.laws.Waits.{needs_layout}
use Rattle.picks.specs.laws.Picks.{ranked_in, better_of, best_to, ready_in, slot_of, is_taken, chosen_in, start_of, start_with}
use Rattle.picks.specs.declared.Ranked.{Ranked}
use Rattle.picks.specs.declared.Slot.{Slot}
use Rattle.picks.specs.declared.Slot.TheVariants as Slots
use Rattle.picks.specs.declared.Start.{Start}

-- a choice with the area's priority and age beside it
abbrev with_rank : List AreaRecord → List ℕ → Choice → Option Ranked
with_rank records ages nobody = None
with_rank records ages (area a) = Some (ranked_in records ages a)

-- and without
abbrev choice_of : Option Ranked → Choice
choice_of None = nobody
choice_of (Some r) = area r.area

without_rank : (records : List AreaRecord) (ages : List ℕ) (x : Choice) → choice_of (with_rank records ages x) ≡ x
without_rank records ages nobody = refl
without_rank records ages (area a) = refl

-- what the rules make of a choice, by what the device has
abbrev start_at : ℕ → Slot → Choice → Core → Core
start_at d Slots.Taken x c = c
start_at d Slots.Free x c = start_choice d x c
start_at d (Slots.Erase b q) x c = erase_or_choice d b q x c

taken_any : (d : ℕ) (s : Slot) → is_taken s ≡ true → (x y : Choice) (c : Core) → start_at d s x c ≡ start_at d s y c
taken_any d Slots.Taken e x y c = refl
taken_any d Slots.Free e x y c = absurd (false≢true e)
taken_any d (Slots.Erase b q) e x y c = absurd (false≢true e)

module _ (records : List AreaRecord) (ages : List ℕ) (count : ℕ) (holders : List DeviceRecord) (needs : List ℕ) (d : ℕ) (areas : List Area) (devices : List Device) where
  abbrev layout : Layout
  layout = needs_layout records ages count holders needs

  better_same : (a : ℕ) (x : Choice) → better_of (ranked_in records ages a) (with_rank records ages x) ≡ with_rank records ages (better layout a x)
  unfolding needs_layout
  better_same a nobody = refl
  better_same a (area b) = by_bool (ranks_above (λ i. (area_of records i).priority) (age_in ages) a b) (λ e. rw e) (λ e. rw e)

  best_same : (n : ℕ) → best_to records ages (ready_in needs areas d) n ≡ with_rank records ages (best layout (core_in areas devices) d n)
  unfolding needs_layout best_to best ready
  best_same zero = refl
  best_same (suc a) =
      let more = ap (better_of (ranked_in records ages a)) (best_same a) ∙ better_same a (best layout (core_in areas devices) d a) in
      by_bool (ready_in needs areas d a) (λ e. rw e more) (λ e. rw e (best_same a))

  -- what the code found is the rules' choice
  pub choice_same : (b : Option Ranked) → b ≡ best_to records ages (ready_in needs areas d) count → choice_of b ≡ best layout (core_in areas devices) d count
  choice_same b e = ap choice_of (e ∙ best_same count) ∙ without_rank records ages (best layout (core_in areas devices) d count)

  -- what the device has, as the code finds it, decides as the rules do
  pub slot_start : length areas ≡ 8 → start_at d (slot_of (device_of holders d).suspends (job_in areas (runner_of (state_in devices d))).task.kind (state_in devices d) (device_in devices d).suspended)
      (best layout (core_in areas devices) d count) (core_in areas devices) ≡ start_device layout d (core_in areas devices)
  unfolding start_device needs_layout
  slot_start areas-are = go (state_in devices d) (device_in devices d).suspended
    where
      choice : Choice
      choice = best layout (core_in areas devices) d count

      -- an area that a manager has not got has no job
      known : (b : ℕ) → (ltb b 8 && is_erase (job_in areas (pick (ltb b 8) b 0)).task.kind) ≡ is_erase (job_in areas b).task.kind
      known b =
          by_ltb b 8
          (λ t h. rw t)
          (λ t h. rw (t, job_past areas b (omega arith)))

      go : (x : DeviceState) (s : Option SuspendedErase) →
          start_at d (slot_of (device_of holders d).suspends (job_in areas (runner_of x)).task.kind x s) choice (core_in areas devices) ≡ start_on layout d x s (core_in areas devices)
      go Free None = refl
      go Free (Some s) = refl
      go (LockedFor a) s = refl
      go (Runs b q) None =
          rw (known b)
          (by_bool (device_of holders d).suspends
          (λ e. rw e (by_bool (is_erase (job_in areas b).task.kind) (λ f. rw f) (λ f. rw f)))
          (λ e. rw e))
      go (Runs b q) (Some s) = by_bool (device_of holders d).suspends (λ e. rw e) (λ e. rw e)

-- the choice is one of the areas looked at
abbrev Below : ℕ → Option Ranked → Type 0
Below n None = 0 ≤ n
Below n (Some r) = r.area < n

module _ (records : List AreaRecord) (ages : List ℕ) (ready : ℕ → Bool) where
  more_below : (n : ℕ) (b : Option Ranked) → Below n b → Below (suc n) b
  more_below n None h = omega arith
  more_below n (Some r) h = omega arith

  better_below : (n : ℕ) (r : Ranked) → r.area ≡ n → (b : Option Ranked) → Below n b → Below (suc n) (better_of r b)
  better_below n r is None h = omega arith
  better_below n r is (Some o) h = by_bool (rank_above r.priority r.age o.priority o.age) (λ e. rw e (omega arith)) (λ e. rw e (omega arith))

  best_within : (n : ℕ) → Below n (best_to records ages ready n)
  unfolding best_to
  best_within zero = omega arith
  best_within (suc a) =
      by_bool (ready a)
      (λ e. rw e (better_below a (ranked_in records ages a) refl (best_to records ages ready a) (best_within a)))
      (λ e. rw e (more_below a (best_to records ages ready a) (best_within a)))

  pub best_below : (n : ℕ) (b : Option Ranked) → b ≡ best_to records ages ready n → (r : Ranked) → b ≡ Some r → r.area < n
  best_below n b is r e = subst (Below n) (sym is ∙ e) (best_within n)

-- a device's choice, in the arrays
module _ (d : ℕ) (areas : List Area) (devices : List Device) (areas-are : length areas ≡ 8) (there : d < length devices) where
  -- the area that is chosen is one that a manager has
  abbrev Known : Option Ranked → Type 0
  Known None = 0 ≤ 0
  Known (Some r) = r.area < 8

  chosen_few : (b : Option Ranked) → Known b → chosen_in b < 8
  chosen_few None h = omega arith
  chosen_few (Some r) h = rw (lt-ltb r.area 8 h) h

  module _ (k : ℕ) (few : k < 8) (t : Start) where
    kept : t.area ≡ get_or areas k fresh_area → t.device ≡ device_in devices d → core_in (set areas k t.area) (set devices d t.device) ≡ core_in areas devices
    kept e f = core_kept areas devices k t.area d t.device (omega arith) there (ap (λ x. x.job) e) f

    moved : (y : Device) → t.area ≡ get_or areas k fresh_area → t.device ≡ y →
        core_in (set areas k t.area) (set devices d t.device) ≡ record { jobs = job_in areas; devices = upd (device_in devices) d y }
    moved y e f = device_changed areas devices k t.area d t.device (omega arith) there (ap (λ x. x.job) e) ∙ rw f

    started : t ≡ start_of k (get_or areas k fresh_area) (device_in devices d) →
        core_in (set areas k t.area) (set devices d t.device) ≡ start_job d k (is_lock (job_in areas k).task.kind) (core_in areas devices)
    started e =
        by_bool (is_lock (job_in areas k).task.kind)
        (λ f. core_set areas devices k t.area d t.device (omega arith) there ∙ rw (e, f))
        (λ f. rw f (moved (doing (Runs k 0) (device_in devices d)) (ap (λ x. x.area) e ∙ rw f) (ap (λ x. x.device) e ∙ rw f)))

    gives : (b q : ℕ) (r : Ranked) → t ≡ start_with (Slots.Erase b q) (Some r) (get_or areas k fresh_area) (device_in devices d) →
        core_in (set areas k t.area) (set devices d t.device) ≡ erase_or d b q r.area (displaces (job_in areas k).task.kind) (core_in areas devices)
    gives b q r e =
        by_bool (displaces (job_in areas k).task.kind)
        (λ f. rw f (moved _ (ap (λ x. x.area) e) (ap (λ x. x.device) e ∙ rw f)))
        (λ f. rw f (moved _ (ap (λ x. x.area) e) (ap (λ x. x.device) e ∙ rw f)))

  arrays : (s : Slot) (b : Option Ranked) → Known b → (k : ℕ) → k ≡ chosen_in b → (t : Start) → t ≡ start_with s b (get_or areas k fresh_area) (device_in devices d) →
      core_in (set areas k t.area) (set devices d t.device) ≡ start_at d s (choice_of b) (core_in areas devices)
  arrays Slots.Taken b h k e t f =
      kept k (subst (λ n. n < 8) (sym e) (chosen_few b h)) t (ap (λ x. x.area) f) (ap (λ x. x.device) f)
  arrays Slots.Free None h k e t f = kept k (omega (arith, e)) t (ap (λ x. x.area) f) (ap (λ x. x.device) f)
  arrays Slots.Free (Some r) h k e t f =
      let is : k ≡ r.area = e ∙ rw (lt-ltb r.area 8 h) in
      rw (sym is) (started k (omega (arith, is)) t (f ∙ rw is))
  arrays (Slots.Erase b q) None h k e t f = moved k (omega (arith, e)) t _ (ap (λ x. x.area) f) (ap (λ x. x.device) f)
  arrays (Slots.Erase b q) (Some r) h k e t f =
      let is : k ≡ r.area = e ∙ rw (lt-ltb r.area 8 h) in
      gives k (omega (arith, is)) t b q r f ∙ rw is

  module _ (records : List AreaRecord) (ages : List ℕ) (count : ℕ) (few : count ≤ 8) (holders : List DeviceRecord) (needs : List ℕ) where
    abbrev choices : Option Ranked
    choices = best_to records ages (ready_in needs areas d) count

    known_best : (b : Option Ranked) → b ≡ choices → Known b
    known_best None e = omega arith
    known_best (Some r) e = let l = best_below records ages (ready_in needs areas d) count (Some r) e r refl in omega arith

    -- a turn of the loop over the devices
    pub start_turn : (r : ℕ) → r ≡ runner_of (state_in devices d) → (s : Slot) →
        s ≡ slot_of (device_of holders d).suspends (job_in areas r).task.kind (state_in devices d) (device_in devices d).suspended →
        (b : Option Ranked) → b ≡ pick (is_taken s) None choices → (k : ℕ) → k ≡ chosen_in b → (t : Start) →
        t ≡ start_with s b (get_or areas k fresh_area) (get_or devices d free_device) →
        core_in (set areas k t.area) (set devices d t.device) ≡ start_device (needs_layout records ages count holders needs) d (core_in areas devices)
    start_turn r runs s e b f k g t h =
        by_bool (is_taken s)
        (λ taken.
        let none : b ≡ None = f ∙ rw taken in
        arrays s b (rw none (omega arith)) k g t h ∙ taken_any d s taken (choice_of b) choice (core_in areas devices) ∙ by_slot)
        (λ seeks.
        let found : b ≡ choices = f ∙ rw seeks in
        arrays s b (known_best b found) k g t h ∙ ap (λ x. start_at d s x (core_in areas devices)) (choice_same records ages count holders needs d areas devices b found) ∙ by_slot)
      where
        choice : Choice
        choice = best (needs_layout records ages count holders needs) (core_in areas devices) d count

        slot : ℕ → Slot
        slot n = slot_of (device_of holders d).suspends (job_in areas n).task.kind (state_in devices d) (device_in devices d).suspended

        by_slot : start_at d s choice (core_in areas devices) ≡ start_device (needs_layout records ages count holders needs) d (core_in areas devices)
        by_slot = ap (λ x. start_at d x choice (core_in areas devices)) (e ∙ ap slot runs) ∙ slot_start records ages count holders needs d areas devices areas-are

-- the choices of the first n devices, and one more
pub second_turn : (p : Layout) (n : ℕ) (c e next : Core) → e ≡ second_half p n c → next ≡ start_device p n e → next ≡ second_half p (n + 1) c
unfolding second_half
second_turn p n c e next f g = rw add-one (g ∙ ap (start_device p n) f)
