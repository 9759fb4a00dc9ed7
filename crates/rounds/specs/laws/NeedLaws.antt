-- The devices that the code finds once are those that the rules ask for, device by device.
use Prim.Native.Nat.{ℕ, zero, suc, ◌≤◌, ◌<◌}
use Rattle.std.specs.Prelude.{Bool, true, false, ◌&&◌, ◌≡◌, length, get_or, Option, None, Some}
use Rattle.std.proofs.lemmas.Bool.{false≢true}
use mathlib.Core.List.{List, []}
use Rattle.std.proofs.Math.Path.{refl, ap}
use Rattle.std.proofs.Common.{sym, subst, ◌∙◌, arith}
use Rattle.arith.specs.Cases.{by_bool}
use Rattle.arith.specs.Parts.{upd_case}
use Rattle.arith.specs.Tables.{table, table_at, table_same, table_whole}
use Rattle.machine.specs.laws.Dues.{Due}
use Rattle.devices.specs.Arrays.{job_in, device_in, core_in}
use Rattle.memory.specs.declared.DeviceAnswer.{DeviceAnswer}
use Rattle.plan.specs.Questions.{device_of}
use Rattle.plan.specs.declared.records.Plan.{Plan}
use Rattle.rules.specs.Layout.{Layout, layout_of, layout_at}
use Rattle.rules.specs.Machine.{Core, Choice, nobody, area, is_pending, need, ready, better, best, start_choice, erase_or_choice, start_over, start_on, start_device, second_half, wait_behind, wait_on, wait_of}
use Rattle.rules.specs.Memory.{Memory}
use Rattle.rules.specs.Round.{take_all, round_halves}
use Rattle.rules.proofs.laws.StepLaws.{start_case}
use Rattle.segment.specs.Segments.{is_erase, no_segment}
use Rattle.segment.specs.declared.Segment.{Segment}
use Rattle.state.specs.Ages.{age_in}
use Rattle.state.specs.Fresh.{fresh_area, free_device}
use Rattle.state.specs.declared.Area.{Area}
use Rattle.state.specs.declared.Device.{Device}
use Rattle.state.specs.declared.DeviceState.{DeviceState}
use Rattle.state.specs.declared.DeviceState.TheVariants.{Free, Runs, LockedFor}
use Rattle.state.specs.declared.SuspendedErase.{SuspendedErase}
use Rattle.state.specs.declared.Waits.{Waits}
use Rattle.close.specs.Close.{closed, waits_in, areas_after, devices_after, lent_to, halves_of}
use Rattle.close.specs.laws.Waits.{needs_layout}

-- the devices of the due segments
unfoldable pub needs_of : List Segment → List ℕ
needs_of dues = table 8 (λ a. (get_or dues a no_segment).device) 0 8

-- the list has, for each pending job, the device that it needs
abbrev pub Needed : Plan → List ℕ → Core → Type 0
Needed p needs c = (a : ℕ) → a < 8 → is_pending (c.jobs a) ≡ true → get_or needs a 0 ≡ need (layout_of p) a (c.jobs a)

pub needs_found : (p : Plan) (dues : List Segment) (c : Core) → Due p dues c.jobs → Needed p (needs_of dues) c
unfolding needs_of layout_of
needs_found p dues c found a h e = table_at 8 (λ i. (get_or dues i no_segment).device) 0 8 a 0 h (omega arith) ∙ ap (λ s. s.device) (found a h e)

module _ (p : Plan) (few : p.area_count ≤ 8) (ages needs : List ℕ) where
  -- the rules' own layout
  abbrev asked : Layout
  asked = layout_at p (age_in ages)

  abbrev found : Layout
  found = needs_layout p.areas ages p.area_count p.devices needs

  ready_same : (c : Core) → Needed p needs c → (d a : ℕ) → a < 8 → ready found c d a ≡ ready asked c d a
  unfolding ready needs_layout
  ready_same c n d a h = by_bool (is_pending (c.jobs a)) (λ e. rw (e, n a h e)) (λ e. rw e)

  better_same : (a : ℕ) (x : Choice) → better found a x ≡ better asked a x
  unfolding needs_layout layout_of
  better_same a nobody = refl
  better_same a (area b) = refl

  best_same : (c : Core) → Needed p needs c → (d n : ℕ) → n ≤ 8 → best found c d n ≡ best asked c d n
  unfolding best
  best_same c n d zero h = refl
  best_same c n d (suc a) h =
      rw (ready_same c n d a (omega arith), best_same c n d a (omega arith), better_same a (best asked c d a))

  start_same : (c : Core) → Needed p needs c → (d : ℕ) → start_device found d c ≡ start_device asked d c
  unfolding start_device needs_layout layout_of
  start_same c n d = go (c.devices d).state (c.devices d).suspended
    where
      same : best found c d p.area_count ≡ best asked c d p.area_count
      same = best_same c n d p.area_count few

      over : (b q : ℕ) (t : Bool) → start_over found d b q t c ≡ start_over asked d b q t c
      over b q true = ap (λ x. erase_or_choice d b q x c) same
      over b q false = refl

      go : (x : DeviceState) (s : Option SuspendedErase) → start_on found d x s c ≡ start_on asked d x s c
      go Free None = ap (λ x. start_choice d x c) same
      go Free (Some s) = ap (λ x. erase_or_choice d s.area s.polls x c) same
      go (LockedFor a) s = refl
      go (Runs b q) None = over b q ((device_of p.devices d).suspends && is_erase (c.jobs b).task.kind)
      go (Runs b q) (Some s) = refl

  -- a lock request that ends is not pending, and nothing else in a job changes
  start_needed : (c : Core) → Needed p needs c → (d : ℕ) → Needed p needs (start_device asked d c)
  start_needed c n d =
      start_case (Needed p needs) asked d c n
      (λ a _ _ _ b h. upd_case (λ j. is_pending j ≡ true → get_or needs b 0 ≡ need asked b j) c.jobs a b _ (λ _ e. absurd (false≢true e)) (λ _. n b h))
      (λ y _. n)

  pub second_same : (n : ℕ) (c : Core) → Needed p needs c →
      (second_half found n c ≡ second_half asked n c) × Needed p needs (second_half asked n c)
  unfolding second_half
  second_same zero c e = (refl, e)
  second_same (suc n) c e =
      let ih = second_same n c e in
      let after = second_half asked n c in
      (ap (start_device found n) ih.0 ∙ start_same after ih.1 n, start_needed after ih.1 n)

  wait_same : (a : ℕ) (x : DeviceState) → wait_on (needs_layout p.areas ages 0 [] needs) a x ≡ wait_on asked a x
  unfolding wait_behind needs_layout layout_of
  wait_same a Free = refl
  wait_same a (Runs b polls) = refl
  wait_same a (LockedFor b) = refl

  -- a job that is no longer pending counts nothing
  closed_same : (c : Core) → Needed p needs c → (a : ℕ) → a < 8 → (was : Bool) (w : Waits) →
      closed was (is_pending (c.jobs a)) (wait_of (needs_layout p.areas ages 0 [] needs) c a) w ≡ closed was (is_pending (c.jobs a)) (wait_of asked c a) w
  unfolding needs_layout
  closed_same c n a h was w =
      by_bool (is_pending (c.jobs a))
      (λ e. ap (λ k. closed was (is_pending (c.jobs a)) k w)
      (ap (λ d. wait_on (needs_layout p.areas ages 0 [] needs) a (c.devices d).state) (n a h e) ∙ wait_same a (c.devices (need asked a (c.jobs a))).state))
      (λ e. rw e (by_bool was (λ f. rw f) (λ f. rw f)))

  pub close_same : (before : List Area) (c : Core) → Needed p needs c → areas_after (needs_layout p.areas ages 0 [] needs) before c ≡ areas_after asked before c
  unfolding areas_after
  close_same before c n =
      table_same 8 _ _ fresh_area 8 λ a h i.
      record { job = c.jobs a; waits = closed_same c n a h (is_pending (job_in before a)) (waits_in before a) i }

-- the devices' array is what the core has of it
pub devices_whole : (l : List Device) (c : Core) → length l ≡ 4 → device_in l ≡ c.devices → l ≡ devices_after c
unfolding devices_after
devices_whole l c e f = table_whole 4 c.devices free_device l e (λ d _. λ i. f i d)

-- a whole round: what the code's parts made, in their order, is what the rules make
module _ (p : Plan) (areas : List Area) (devices : List Device) (ages : List ℕ) (answers : List DeviceAnswer) (m : Memory) (few : p.area_count ≤ 8)
    (taken : List Area) (free : List Device) (first : core_in taken free ≡ (take_all p answers p.device_count (lent_to areas devices m)).core)
    (dues : List Segment) (due : Due p dues (job_in taken)) (needs : List ℕ) (found_is : needs ≡ needs_of dues)
    (started : List Area) (left : List Device)
    (second : core_in started left ≡ second_half (needs_layout p.areas ages p.area_count p.devices needs) p.device_count (core_in taken free)) where
  found_needs : Needed p needs (core_in taken free)
  found_needs = subst (λ l. Needed p l (core_in taken free)) (sym found_is) (needs_found p dues (core_in taken free) due)

  -- the core after both halves
  pub whole_core : core_in started left ≡ (halves_of p areas devices ages answers m).core
  unfolding halves_of round_halves
  whole_core =
      second ∙ (second_same p few ages needs p.device_count (core_in taken free) found_needs).0
      ∙ ap (second_half (layout_at p (age_in ages)) p.device_count) first

  whole_needs : Needed p needs (core_in started left)
  whole_needs =
      subst (Needed p needs)
      (sym (second ∙ (second_same p few ages needs p.device_count (core_in taken free) found_needs).0))
      (second_same p few ages needs p.device_count (core_in taken free) found_needs).1

  pub whole_areas : (r : List Area) → r ≡ areas_after (needs_layout p.areas ages 0 [] needs) areas (core_in started left) →
      r ≡ areas_after (layout_at p (age_in ages)) areas (halves_of p areas devices ages answers m).core
  whole_areas r e =
      e ∙ close_same p few ages needs areas (core_in started left) whole_needs ∙ ap (areas_after (layout_at p (age_in ages)) areas) whole_core

  pub whole_devices : length left ≡ 4 → left ≡ devices_after (halves_of p areas devices ages answers m).core
  whole_devices e = devices_whole left (core_in started left) e refl ∙ ap devices_after whole_core

-- and so is the memory
pub whole_memory : (p : Plan) (areas : List Area) (devices : List Device) (ages : List ℕ) (answers : List DeviceAnswer) (m : Memory) →
    (take_all p answers p.device_count (lent_to areas devices m)).memory ≡ (halves_of p areas devices ages answers m).memory
unfolding halves_of round_halves
whole_memory p areas devices ages answers m = refl
