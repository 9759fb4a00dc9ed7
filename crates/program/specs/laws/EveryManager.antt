-- Demand 1 of every manager: refusals and other calls by the definitions alone, an accepted round by question 9.
use Rattle.std.specs.Prelude.{ℕ, ◌+◌, ◌≤◌, ◌<◌, Bool, false, List, [], ◌≢◌, ◌≡◌, refl}
use Rattle.std.proofs.Math.Bool.{true}
use Rattle.std.proofs.Common.{true≢false, sym, ◌∙◌, arith}
use Rattle.std.proofs.Math.Path.{subst}
use borrow.Author.Tests.{ltb-true, leb-true, eqb-true}
use Rattle.arith.specs.Bounded.{every_elim}
use Rattle.arith.specs.Cases.{by_bool}
use Rattle.arith.specs.Plain.{and_plain}
use Rattle.devices.specs.Arrays.{job_in, state_in}
use Rattle.machine.specs.Sound.{is_sound, state_sound, segment_fits, request_sound}
use Rattle.manager.specs.Calls.{core_of, after_job, after_release, after_cancel, round_number_of, after_round, memory_after_round}
use Rattle.manager.specs.declared.Manager.{Manager}
use Rattle.memory.specs.declared.DeviceAnswer.{DeviceAnswer}
use Rattle.plan.specs.Questions.{area_of, length_sum}
use Rattle.plan.specs.declared.records.Plan.{Plan}
use Rattle.close.specs.Close.{halves_of}
use Rattle.rules.specs.Admission.{uses_window, if_asked, round_number}
use Rattle.rules.specs.Answers.{is_round}
use Rattle.rules.specs.History.{Call, submit, releases, cancels, asks, round}
use Rattle.rules.specs.Layout.{layout_of}
use Rattle.rules.specs.Machine.{Core}
use Rattle.rules.specs.Memory.{Memory}
use Rattle.rules.specs.Round.{round_halves}
use Rattle.rules.proofs.laws.Demand1.{pick_refused, round_inside}
use Rattle.rules.proofs.laws.RequestBytes.{Fits}
use Rattle.rules.proofs.laws.Requests.{request_at, by_request, round_accepted}
use Rattle.rules.proofs.laws.TakeLaws.{Alone}
use Rattle.state.specs.declared.DeviceState.TheVariants.{Runs}
use Rattle.rules.specs.statements.Reach.{request_of}
use Rattle.rules.specs.statements.Statements.{RoundInside}
use Rattle.program.specs.Run.{manager_number, manager_after, manager_memory}
use Rattle.program.specs.Statements.{EveryManager}

-- "any other refusal returns the number and the manager given"
refused : (m : Manager) (k : Call) → manager_number k m ≢ 0 → manager_after k m ≡ m
unfolding after_job after_release after_cancel after_round
refused m (submit a t) f = pick_refused _ _ m f
refused m (releases a address n) f = pick_refused _ _ m f
refused m (cancels a) f = pick_refused _ _ m f
refused m (asks q) f = refl
refused m (round answers given) f = pick_refused _ _ m f

-- "lent memory untouched"
refused_round : (m : Manager) (answers : List DeviceAnswer) (lent : Memory) → let k = round answers lent in manager_number k m ≢ 0 → manager_memory k m lent ≡ lent
unfolding memory_after_round
refused_round m answers lent f = pick_refused _ _ lent f

-- a call that is no round
other_calls : (m : Manager) (k : Call) (lent : Memory) → is_round k ≡ false → manager_memory k m lent ≡ lent
other_calls m (submit a t) lent e = refl
other_calls m (releases a address n) lent e = refl
other_calls m (cancels a) lent e = refl
other_calls m (asks q) lent e = refl
other_calls m (round answers given) lent e = absurd (true≢false e)

-- question 14's test, where it is asked
if_asked_lem : (u q : Bool) → if_asked u q ≡ true → u ≡ true → q ≡ true
if_asked_lem true q e f = e
if_asked_lem false q e f = absurd (true≢false (sym f))

-- what question 9 says of the request of area a, which runs on device d
record SoundRequest (p : Plan) (c : Core) (d a : ℕ) : Type 0 where
  known : a < p.area_count
  here : (request_of p c a).device ≡ d
  inside : (request_of p c a).start.0 + (request_of p c a).length ≤ length_sum p.devices p.device_count
  window : uses_window (c.jobs a).task.kind ≡ true → (c.jobs a).processed + (request_of p c a).length ≤ (area_of p.areas a).window.length

module _ (m : Manager) (sound : is_sound m.plan m.areas m.devices ≡ true) where
  sound_request : (d a q : ℕ) → d < m.plan.device_count → ((core_of m).devices d).state ≡ Runs a q → SoundRequest m.plan (core_of m) d a
  unfolding is_sound request_sound segment_fits layout_of
  sound_request d a q l e =
      let p = m.plan in
      let j = (core_of m).jobs a in
      let all = (simp and_plain at sound).1 in
      let test : state_sound p d (job_in m.areas) (Runs a q) ≡ true
      = subst (λ s. state_sound p d (job_in m.areas) s ≡ true) e (every_elim (λ d. state_sound p d (job_in m.areas) (state_in m.devices d)) _ all d l) in
      let all-tests = simp and_plain at test in
      let fits = all-tests.1.1 in
      record {
        known = ltb-true _ _ all-tests.0;
        here = eqb-true _ _ fits.0;
        inside = leb-true _ _ fits.1.0;
        window = λ u. leb-true _ _ (if_asked_lem (uses_window j.task.kind) _ fits.1.1.1 u);
      }

  sound_alone : Alone m.plan.device_count (core_of m)
  sound_alone d e a q r k l u v = sym (sound_request d a q k u).here ∙ (sound_request e a r l v).here

  sound_fits : (lent : Memory) → round_number m.plan lent.image lent.store ≡ 0 → (d : ℕ) → d < m.plan.device_count → Fits lent (request_at m.plan (core_of m) d)
  sound_fits lent accepted d l =
      let long = round_accepted m.plan lent accepted in
      by_request m.plan (core_of m) (Fits lent) d (omega arith) λ a q e.
      let s = sound_request d a q l e in
      record {
        image = omega (arith, s.inside, long.0);
        store = λ u. omega (arith, s.window u, long.1 a s.known);
      }

-- an accepted round
rounds : (m : Manager) (answers : List DeviceAnswer) (lent : Memory) → let k = round answers lent in manager_number k m ≡ 0 →
    RoundInside m.plan (core_of m) answers lent (manager_memory k m lent)
unfolding round_number_of memory_after_round halves_of round_halves
rounds m answers lent e =
    by_bool (is_sound m.plan m.areas m.devices)
    (λ sound.
    let accepted : round_number m.plan lent.image lent.store ≡ 0 = rw sound at e in
    rw (sound, accepted) (round_inside m.plan (core_of m) (sound_alone m sound) lent (sound_fits m sound lent accepted) answers (λ a. [])))
    (λ unsound. absurd (omega (arith, rw unsound at e)))

pub every_manager : (m : Manager) → EveryManager m
every_manager m = record { other_calls = other_calls m; rounds = rounds m; refused = refused m; refused_round = refused_round m }
