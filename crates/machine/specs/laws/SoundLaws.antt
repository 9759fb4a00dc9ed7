-- The states that pass the soundness test.
use Rattle.std.specs.Prelude.{ℕ, ◌+◌, ◌≤◌, Bool, false, List, ◌≡◌}
use Rattle.std.proofs.Math.Bool.{true, not}
use Rattle.std.proofs.Math.Path.{refl, ap}
use Rattle.std.proofs.Common.{arith}
use borrow.Author.Tests.{eq-eqb, le-leb, lt-ltb}
use Rattle.arith.specs.Bounded.{every_intro}
use Rattle.arith.specs.Cases.{and_intro}
use Rattle.plan.specs.Questions.{area_of, device_of, device_end, length_sum, within, counts_fit}
use Rattle.plan.specs.Records.{empty_plan}
use Rattle.plan.specs.WellFormed.{WellFormed}
use Rattle.plan.specs.declared.records.Plan.{Plan}
use Rattle.rules.specs.Admission.{admits, uses_window, if_asked}
use Rattle.rules.specs.Layout.{layout_of}
use Rattle.rules.specs.Machine.{Core}
use Rattle.rules.specs.statements.Reach.{request_of}
use Rattle.rules.proofs.laws.Reachable.{Reachable}
use Rattle.rules.proofs.laws.Requests.{AtCuts, placed, running_on, device_end_lem}
use Rattle.state.specs.declared.Area.{Area}
use Rattle.state.specs.declared.Device.{Device}
use Rattle.state.specs.declared.DeviceState.{DeviceState}
use Rattle.state.specs.declared.DeviceState.TheVariants.{Free, Runs, LockedFor}
use Rattle.devices.specs.Arrays.{job_in, state_in, core_in}
use Rattle.machine.specs.Sound.{job_runs, segment_fits, request_sound, state_sound, is_sound}

-- a question that is asked only sometimes
asked : (u q : Bool) → (u ≡ true → q ≡ true) → if_asked u q ≡ true
asked true q f = f refl
asked false q f = refl

-- every reachable state: device d passes
module _ (p : Plan) (w : WellFormed p) (c : Core) (reach : Reachable (layout_of p) (admits p) c) (cuts : AtCuts p c) (d : ℕ) where
  sound_on : (x : DeviceState) → (c.devices d).state ≡ x → state_sound p d c.jobs x ≡ true
  unfolding request_sound job_runs segment_fits layout_of
  sound_on Free e = refl
  sound_on (LockedFor a) e = refl
  sound_on (Runs a q) e =
      let r = running_on reach e in
      let h = placed p w c reach cuts e in
      let g = h.good in
      let known = w.device_known g.sub_area g.known in
      let image = ap (λ i. device_end (device_of p.devices i)) g.device_is in
      let s = request_of p c a in
      let j = c.jobs a in
      let inside : s.start.0 + s.length ≤ length_sum p.devices p.device_count = omega (arith, g.before_device_end, image, device_end_lem p w _ known) in
      let left : j.processed + s.length ≤ j.task.length = omega (arith, g.length_most, h.more) in
      let window : uses_window j.task.kind ≡ true → j.processed + s.length ≤ (area_of p.areas a).window.length = λ u. omega (arith, h.window u) in
      and_intro (lt-ltb _ _ h.known)
      (and_intro (and_intro r.pending (and_intro (ap not r.no_lock) (lt-ltb _ _ r.few)))
      (and_intro (eq-eqb _ _ r.needed)
      (and_intro (le-leb _ _ inside)
      (and_intro (le-leb _ _ left)
      (asked (uses_window j.task.kind) _ (λ u. le-leb _ _ (window u)))))))

  pub device_sound : state_sound p d c.jobs (c.devices d).state ≡ true
  device_sound = sound_on (c.devices d).state refl

-- a count in its bounds
counted : (most n : ℕ) → 1 ≤ n → n ≤ most → within most n ≡ true
counted most n some few = and_intro (le-leb 1 n some) (le-leb n most few)

-- the whole test
pub reached_sound : (p : Plan) → WellFormed p → (areas : List Area) (devices : List Device) →
    Reachable (layout_of p) (admits p) (core_in areas devices) → AtCuts p (core_in areas devices) → is_sound p areas devices ≡ true
unfolding is_sound counts_fit
reached_sound p w areas devices reach cuts =
    and_intro
    (and_intro (counted _ _ w.device_some w.device_most)
    (and_intro (counted _ _ w.area_some w.area_most) (counted _ _ w.sub_area_some w.sub_area_most)))
    (every_intro (λ d. state_sound p d (job_in areas) (state_in devices d)) p.device_count λ d _.
    device_sound p w (core_in areas devices) reach cuts d)

-- the manager of all zeros
pub zero_unsound : (areas : List Area) (devices : List Device) → is_sound empty_plan areas devices ≡ false
unfolding is_sound counts_fit empty_plan
zero_unsound areas devices = refl
