-- What a call hands back, written back, is the manager that the call returns: by the cases that the code takes apart.
use Rattle.std.specs.Prelude.{ℕ, ◌≤◌, Bool, true, false, not, List, [], ◌∷◌, ◌≡◌, Ok, Err, refl, eqb}
use Rattle.std.proofs.Common.{true≢false, ◌∙◌, arith, ltb-true}
use Rattle.std.proofs.Math.Path.{sym, ap}
use Rattle.std.proofs.lemmas.Bool.{lt-leb}
use Rattle.std.proofs.Math.ListN.{get_or, set}
use Rattle.std.proofs.Math.Seq.{set-get_or}
use Rattle.arith.specs.Cases.{pick, by_bool}
use Rattle.arith.specs.FirstNo.{first_no, none_elim}
use Rattle.arith.specs.Parts.{upd_same}
use Rattle.arith.specs.Tables.{table}
use Rattle.changes.specs.declared.Change.{Change}
use Rattle.changes.specs.laws.Changes.{place_of, asked_area, unchanged, begun_change, stopped_change, refused_some}
use Rattle.devices.specs.Arrays.{job_in, device_in}
use Rattle.machine.specs.Sound.{is_sound}
use Rattle.devices.specs.laws.DeviceLaws.{cancel_alone}
use Rattle.machine.specs.laws.SoundCases.{sound_few}
use Rattle.memory.specs.Numbers.{Answer, admission_number}
use Rattle.memory.specs.declared.Refusal.{Refusal}
use Rattle.memory.specs.declared.LogicalAddress.{LogicalAddress}
use Rattle.memory.specs.declared.Task.{Task}
use Rattle.plan.specs.declared.records.Plan.{Plan}
use Rattle.rules.specs.Admission.{skip, is_known, range_device, range_questions, job_questions, cancel_questions}
use Rattle.rules.specs.Layout.{layout_of}
use Rattle.rules.specs.Machine.{is_pending, doing, begun, begin}
use Rattle.rules.specs.Ranks.{ages_after}
use Rattle.state.specs.Ages.{age_in}
use Rattle.state.specs.Fresh.{no_waits, fresh_area, free_device}
use Rattle.state.specs.declared.Area.{Area}
use Rattle.state.specs.declared.Device.{Device}
use Rattle.state.specs.declared.DeviceState.TheVariants.{Free}
use Rattle.state.specs.declared.Job.{Job}
use Rattle.manager.specs.Calls.{core_of, manager_of, changed, job_number_of, after_job, release_number_of, after_release, cancel_number_of, after_cancel}
use Rattle.manager.specs.laws.CallLaws.{job_refused, cancel_refused, cancel_accepted, release_accepted}

-- the first three questions alone
three : (s k i : Bool) (qs : List Bool) → eqb (first_no 9 (s ∷ k ∷ i ∷ [])) 0 ≡ false → first_no 9 (s ∷ k ∷ i ∷ []) ≡ first_no 9 (s ∷ k ∷ i ∷ qs)
unfolding first_no
three false k i qs e = refl
three true false i qs e = refl
three true true false qs e = refl
three true true true qs e = absurd (true≢false e)

module _ (p : Plan) (areas : List Area) (devices : List Device) (ages wear : List ℕ) where
  -- a call that was refused, and one that changes no area or no device
  pub kept : (x : Answer) → changed (manager_of p areas devices ages wear) (unchanged areas devices ages x) ≡ manager_of p areas devices ages wear
  kept x i = record { plan = p; areas = set-get_or areas 0 fresh_area i; devices = set-get_or devices 0 free_device i; ages = ages; wear = wear }

  module _ (a : ℕ) where
    placed : is_sound p areas devices ≡ true → is_known p a ≡ true → place_of a ≡ a
    placed s k =
        let few = sound_few p areas devices s in
        ap (λ b. pick b 0 a) (lt-leb 8 a (omega (arith, few.0, ltb-true a p.area_count k)))

    -- the questions of a call on the area, with the job that is at its place
    same_questions : (q : Job → List Bool) →
        first_no 9 (is_sound p areas devices ∷ is_known p a ∷ q (job_in areas (place_of a))) ≡ first_no 9 (is_sound p areas devices ∷ is_known p a ∷ q (job_in areas a))
    unfolding first_no
    same_questions q =
        by_bool (is_sound p areas devices)
        (λ s. by_bool (is_known p a) (λ k. ap (λ b. first_no 9 (is_sound p areas devices ∷ is_known p a ∷ q (job_in areas b))) (placed s k)) (λ k. rw (s, k)))
        (λ s. rw s)

    -- a job: x is the answer to its first three questions
    module _ (t : Task) (x : Answer) (is : admission_number x ≡ first_no 9 (is_sound p areas devices ∷ is_known p a ∷ not (is_pending (job_in areas (place_of a))) ∷ [])) where
      idle : admission_number x ≡ first_no 9 (is_sound p areas devices ∷ is_known p a ∷ not (is_pending (job_in areas a)) ∷ [])
      idle = is ∙ same_questions (λ j. not (is_pending j) ∷ [])

      pub job_none : (q : Refusal) → x ≡ Err q →
          (admission_number x ≡ job_number_of (manager_of p areas devices ages wear) a t)
          × (manager_of p areas devices ages wear ≡ after_job (manager_of p areas devices ages wear) a t)
      unfolding job_number_of job_questions
      job_none q e =
          let number = idle ∙ three _ _ _ (range_questions p a t) (refused_some x q e _ idle) in
          (number, job_refused (manager_of p areas devices ages wear) a t (refused_some x q e _ number))

      idle_yes : x ≡ Ok tt → (is_sound p areas devices ≡ true) × (is_known p a ≡ true) × (not (is_pending (job_in areas a)) ≡ true)
      idle_yes e = let all = none_elim 9 _ (omega arith) (sym idle ∙ ap admission_number e) in (all 0 (omega arith), all 1 (omega arith), all 2 (omega arith))

      pub job_asked : x ≡ Ok tt → p.sub_area_count ≤ 32
      job_asked e = (sound_few p areas devices (idle_yes e).0).1

      begun_at : (y : Answer) (d : Device) → d ≡ get_or devices 0 free_device → admission_number y ≡ job_number_of (manager_of p areas devices ages wear) a t →
          changed (manager_of p areas devices ages wear) (begun_change y p (record { sound = is_sound p areas devices; number = a; area = get_or areas a fresh_area }) d ages t)
          ≡ after_job (manager_of p areas devices ages wear) a t
      unfolding after_job begin
      begun_at y d first n =
          let same : set devices 0 d ≡ devices = ap (set devices 0) first ∙ set-get_or devices 0 free_device in
          by_bool (eqb (job_number_of (manager_of p areas devices ages wear) a t) 0)
          (λ e. rw (n, e) (λ i. record { plan = p; areas = set areas a (record { job = sym (upd_same (job_in areas) a (begun (layout_of p) a t (job_in areas a))) i; waits = no_waits }); devices = same i; ages = table 8 (ages_after a (age_in ages)) 0 8; wear = wear }))
          (λ e. rw (n, e) (λ i. record { plan = p; areas = set-get_or areas a fresh_area i; devices = same i; ages = ages; wear = wear }))

      pub job_begun : x ≡ Ok tt → (r : Change) (d : Device) → d ≡ get_or devices 0 free_device → admission_number r.answer ≡ first_no 12 (range_questions p (place_of a) t) →
          r ≡ begun_change r.answer p (asked_area p areas devices a) d ages t →
          (admission_number r.answer ≡ job_number_of (manager_of p areas devices ages wear) a t)
          × (changed (manager_of p areas devices ages wear) r ≡ after_job (manager_of p areas devices ages wear) a t)
      unfolding job_number_of job_questions first_no
      job_begun e r d first n f =
          let y = idle_yes e in
          let here = placed y.0 y.1 in
          let number : admission_number r.answer ≡ job_number_of (manager_of p areas devices ages wear) a t = n ∙ ap (λ k. first_no 12 (range_questions p k t)) here ∙ rw (y.0, y.1, y.2) in (
            number,
            ap (changed (manager_of p areas devices ages wear)) f
                ∙ ap (λ k. changed (manager_of p areas devices ages wear) (begun_change r.answer p (record { sound = is_sound p areas devices; number = k; area = get_or areas k fresh_area }) d ages t)) here
                ∙ begun_at r.answer d first number,
          )

    -- a cancel: x is its answer
    module _ (x : Answer) (is : admission_number x ≡ first_no 9 (is_sound p areas devices ∷ is_known p a ∷ skip 6 (is_pending (job_in areas (place_of a)) ∷ []))) where
      asked_number : admission_number x ≡ cancel_number_of (manager_of p areas devices ages wear) a
      unfolding cancel_number_of cancel_questions
      asked_number = is ∙ same_questions (λ j. skip 6 (is_pending j ∷ []))

      pub cancel_none : (q : Refusal) → x ≡ Err q →
          (admission_number x ≡ cancel_number_of (manager_of p areas devices ages wear) a)
          × (manager_of p areas devices ages wear ≡ after_cancel (manager_of p areas devices ages wear) a)
      cancel_none q e = (asked_number, cancel_refused (manager_of p areas devices ages wear) a (refused_some x q e _ asked_number))

      asked_yes : x ≡ Ok tt → (is_sound p areas devices ≡ true) × (is_known p a ≡ true)
      unfolding cancel_number_of cancel_questions
      asked_yes e = let all = none_elim 9 _ (omega arith) (sym asked_number ∙ ap admission_number e) in (all 0 (omega arith), all 1 (omega arith))

      pub cancel_asked : x ≡ Ok tt → p.sub_area_count ≤ 32
      cancel_asked e = (sound_few p areas devices (asked_yes e).0).1

      stopped_at : x ≡ Ok tt →
          changed (manager_of p areas devices ages wear) (stopped_change p (record { sound = is_sound p areas devices; number = a; area = get_or areas a fresh_area }) devices ages)
          ≡ after_cancel (manager_of p areas devices ages wear) a
      stopped_at e =
          (λ i. record { plan = p; areas = set areas a (record { job = cancel_alone (layout_of p) a (core_of (manager_of p areas devices ages wear)) i; waits = (get_or areas a fresh_area).waits }); devices = set-get_or devices 0 free_device i; ages = ages; wear = wear })
          ∙ cancel_accepted (manager_of p areas devices ages wear) a (sym asked_number ∙ ap admission_number e)

      pub cancel_stopped : x ≡ Ok tt → (r : Change) → r ≡ stopped_change p (asked_area p areas devices a) devices ages →
          (admission_number r.answer ≡ cancel_number_of (manager_of p areas devices ages wear) a)
          × (changed (manager_of p areas devices ages wear) r ≡ after_cancel (manager_of p areas devices ages wear) a)
      cancel_stopped e r f =
          let y = asked_yes e in (
            ap (λ z. admission_number z.answer) f ∙ ap admission_number (sym e) ∙ asked_number,
            ap (changed (manager_of p areas devices ages wear)) f
                ∙ ap (λ k. changed (manager_of p areas devices ages wear) (stopped_change p (record { sound = is_sound p areas devices; number = k; area = get_or areas k fresh_area }) devices ages)) (placed y.0 y.1)
                ∙ stopped_at e,
          )

  -- a release: d is the device that it frees
  pub release_freed : (a : ℕ) (address : LogicalAddress) (n d : ℕ) (x : Answer) → d ≡ range_device p a address n → release_number_of (manager_of p areas devices ages wear) a address n ≡ 0 →
      changed (manager_of p areas devices ages wear)
      (record { area_number = 0; area = get_or areas 0 fresh_area; device_number = d; device = doing Free (device_in devices d); ages = ages; answer = x })
      ≡ after_release (manager_of p areas devices ages wear) a address n
  release_freed a address n d x is e =
      (λ i. record { plan = p; areas = set-get_or areas 0 fresh_area i; devices = set devices d (doing Free (device_in devices d)); ages = ages; wear = wear })
      ∙ release_accepted (manager_of p areas devices ages wear) a address n d is e
