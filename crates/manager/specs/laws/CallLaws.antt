-- The calls by the cases that the code takes apart.
use Rattle.state.specs.declared.Device.{Device}
use Rattle.state.specs.declared.Area.{Area}
use Rattle.rules.specs.Memory.{Memory}
use Rattle.memory.specs.declared.DeviceAnswer.{DeviceAnswer}
use Rattle.arith.specs.Cases.{by_bool}
use Rattle.std.specs.Prelude.{ℕ, ◌≤◌, ◌<◌, Bool, false, true, List, ◌∷◌, ◌≡◌, eqb, length, replicate}
use Rattle.std.proofs.Common.{sym, ap, ◌∙◌, arith, ltb-true, eq-eqb, ne_eqb}
use Rattle.arith.specs.FirstNo.{first_no, none_elim}
use Rattle.arith.specs.Parts.{upd_same}
use Rattle.memory.specs.Numbers.{job_type_number, status_number, refusal_number}
use Rattle.memory.specs.laws.NumberLaws.{refusal_some}
use Rattle.memory.specs.declared.Refusal.{Refusal}
use Rattle.memory.specs.declared.LogicalAddress.{LogicalAddress}
use Rattle.memory.specs.declared.Task.{Task}
use Rattle.devices.specs.laws.DeviceLaws.{lock_known}
use Rattle.questions.specs.laws.QuestionLaws.{devices_alone}
use Rattle.devices.specs.Arrays.{job_in, device_in}
use Rattle.machine.specs.Sound.{is_sound}
use Rattle.machine.specs.laws.SoundCases.{sound_few}
use Rattle.close.specs.Close.{waits_in, areas_after, devices_after, wear_after_round, halves_of}
use Rattle.rules.specs.Admission.{is_known, range_device, release_questions, info_questions, memory_info_questions, image_fits, store_reaches, round_number}
use Rattle.rules.specs.Layout.{layout_of}
use Rattle.rules.specs.Machine.{doing, cancel, release}
use Rattle.rules.specs.Queries.{job_info_of, no_memory_info, memory_info_of}
use Rattle.rules.specs.Wear.{no_wear_info, worn_at, wear_info_of}
use Rattle.state.specs.declared.DeviceState.TheVariants.{Free}
use Rattle.state.specs.declared.Job.{Job}
use Rattle.state.specs.declared.JobInfo.{JobInfo}
use Rattle.manager.specs.Calls.{core_of, ranked_of, sound_number, with_area, with_device, job_number_of, after_job, release_number_of, after_release, cancel_number_of, after_cancel, info_number_of, status_of, result_of, processed_of, no_job_info, info_of, job_type_of, memory_info_number_of, memory_of_area, wear_of_area, round_number_of, after_round, memory_after_round}
use Rattle.wear.specs.Wear.{no_worn, add_worn}
use Rattle.wear.specs.declared.Worn.{Worn}
use Rattle.manager.specs.declared.Manager.{Manager}

-- the number n of each call, with the answer to question 9
module _ (m : Manager) (a : ℕ) (sound : Bool) (is : sound ≡ is_sound m.plan m.areas m.devices) (n : ℕ) where
  pub release_number_lem : (address : LogicalAddress) (l : ℕ) → n ≡ first_no 9 (sound ∷ release_questions m.plan (devices_alone m.devices) a address l) →
      n ≡ release_number_of m a address l
  unfolding release_number_of release_questions
  release_number_lem address l e = rw is at e

  pub info_number_lem : n ≡ first_no 9 (sound ∷ info_questions m.plan a) → n ≡ info_number_of m a
  unfolding info_number_of
  info_number_lem e = rw is at e

  pub memory_number_lem : (address : LogicalAddress) → n ≡ first_no 9 (sound ∷ memory_info_questions m.plan a address) → n ≡ memory_info_number_of m a address
  unfolding memory_info_number_of
  memory_number_lem address e = rw is at e

-- an accepted call is of an area and a plan that the arrays hold
module _ (m : Manager) (a : ℕ) where
  known_few : (questions : List Bool) → sound_number m (is_known m.plan a ∷ questions) ≡ 0 → (m.plan.sub_area_count ≤ 32) × (a < 8)
  known_few questions e =
      let yes = none_elim 9 _ (omega arith) e in
      let few = sound_few m.plan m.areas m.devices (yes 0 (omega arith)) in
      (few.1, omega (arith, few.0, ltb-true a m.plan.area_count (yes 1 (omega arith))))

  pub release_few : (address : LogicalAddress) (n : ℕ) → release_number_of m a address n ≡ 0 → (m.plan.sub_area_count ≤ 32) × (a < 8)
  unfolding release_number_of release_questions
  release_few address n e = known_few _ e

  pub info_few : info_number_of m a ≡ 0 → (m.plan.sub_area_count ≤ 32) × (a < 8)
  unfolding info_number_of info_questions
  info_few e = known_few _ e

  pub memory_few : (address : LogicalAddress) → memory_info_number_of m a address ≡ 0 → (m.plan.sub_area_count ≤ 32) × (a < 8)
  unfolding memory_info_number_of memory_info_questions
  memory_few address e = known_few _ e

-- the next manager of each call
module _ (m : Manager) (a : ℕ) where
  pub cancel_refused : eqb (cancel_number_of m a) 0 ≡ false → m ≡ after_cancel m a
  unfolding after_cancel
  cancel_refused e = rw e

  pub cancel_accepted : cancel_number_of m a ≡ 0 →
      with_area a ((cancel (layout_of m.plan) a (core_of m)).jobs a) (waits_in m.areas a) m ≡ after_cancel m a
  unfolding after_cancel
  cancel_accepted e = rw (eq-eqb (cancel_number_of m a) 0 e)

  pub job_refused : (t : Task) → eqb (job_number_of m a t) 0 ≡ false → m ≡ after_job m a t
  unfolding after_job
  job_refused t e = rw e

  module _ (address : LogicalAddress) (n : ℕ) where
    -- the device of an accepted release is one that the manager has
    pub release_known : (k : ℕ) → length m.devices ≡ k → release_number_of m a address n ≡ 0 → range_device m.plan a address n < k
    unfolding release_number_of release_questions
    release_known k long e = lock_known m.devices _ a k long (none_elim 9 _ (omega arith) e 7 (omega arith))

    pub release_refused : eqb (release_number_of m a address n) 0 ≡ false → m ≡ after_release m a address n
    unfolding after_release
    release_refused e = rw e

    pub release_accepted : (d : ℕ) → d ≡ range_device m.plan a address n → release_number_of m a address n ≡ 0 →
        with_device d (doing Free (device_in m.devices d)) m ≡ after_release m a address n
    unfolding after_release release
    release_accepted d is e =
        rw (eq-eqb (release_number_of m a address n) 0 e, is) (ap (λ x. with_device (range_device m.plan a address n) x m) (sym (upd_same (core_of m).devices _ _)))

-- the number of a refusal is not 0
pub refused_number : (q : Refusal) (n : ℕ) → refusal_number q ≡ n → eqb n 0 ≡ false
refused_number q n e = ne_eqb n 0 (λ z. omega (arith, refusal_some q, e, z))

-- what a refused query gives
module _ (m : Manager) (a : ℕ) (e : eqb (info_number_of m a) 0 ≡ false) where
  pub status_refused : 0 ≡ status_of m a
  unfolding status_of
  status_refused = rw e

  pub result_refused : record { 0 = 0 } ≡ result_of m a
  unfolding result_of
  result_refused = rw e

  pub processed_refused : 0 ≡ processed_of m a
  unfolding processed_of
  processed_refused = rw e

  pub info_refused : no_job_info ≡ info_of m a
  unfolding info_of
  info_refused = rw e

-- what an accepted one gives, of the area's job j
module _ (m : Manager) (a : ℕ) (e : info_number_of m a ≡ 0) where
  module _ (j : Job) (is : j ≡ job_in m.areas a) where
    pub status_accepted : status_number j.status ≡ status_of m a
    unfolding status_of
    status_accepted = rw (eq-eqb (info_number_of m a) 0 e) (ap (λ k. status_number k.status) is)

    pub result_accepted : j.result ≡ result_of m a
    unfolding result_of
    result_accepted = rw (eq-eqb (info_number_of m a) 0 e) (ap (λ k. k.result) is)

    pub processed_accepted : j.processed ≡ processed_of m a
    unfolding processed_of
    processed_accepted = rw (eq-eqb (info_number_of m a) 0 e) (ap (λ k. k.processed) is)

  pub info_accepted : job_info_of m.plan (core_of m) (waits_in m.areas a) a ≡ info_of m a
  unfolding info_of
  info_accepted = rw (eq-eqb (info_number_of m a) 0 e)

-- the type in a job's info, accepted or not
pub info_type : (m : Manager) (a : ℕ) (i : JobInfo) → i ≡ info_of m a → job_type_number i.task.kind ≡ job_type_of m a
unfolding info_of job_type_of job_info_of
info_type m a i e = ap (λ (x : JobInfo). job_type_number x.task.kind) e ∙ by_bool (eqb (info_number_of m a) 0) (λ f. rw f) (λ f. rw f)

module _ (m : Manager) (a : ℕ) (address : LogicalAddress) where
  pub memory_refused : eqb (memory_info_number_of m a address) 0 ≡ false → no_memory_info ≡ memory_of_area m a address
  unfolding memory_of_area
  memory_refused e = rw e

  pub memory_accepted : memory_info_number_of m a address ≡ 0 → memory_info_of m.plan a address ≡ memory_of_area m a address
  unfolding memory_of_area
  memory_accepted e = rw (eq-eqb (memory_info_number_of m a address) 0 e)

  pub wear_refused : eqb (memory_info_number_of m a address) 0 ≡ false → no_wear_info ≡ wear_of_area m a address
  unfolding wear_of_area
  wear_refused e = rw e

  pub wear_accepted : memory_info_number_of m a address ≡ 0 → wear_info_of m.plan (worn_at m.wear) a address ≡ wear_of_area m a address
  unfolding wear_of_area
  wear_accepted e = rw (eq-eqb (memory_info_number_of m a address) 0 e)

-- a round
module _ (m : Manager) (answers : List DeviceAnswer) (lent : Memory) where
  pub round_asked : round_number_of m lent ≡ 0 →
      (is_sound m.plan m.areas m.devices ≡ true) × (image_fits m.plan lent.image ≡ true) × (store_reaches m.plan lent.store ≡ true)
  unfolding round_number_of round_number
  round_asked e =
      by_bool (is_sound m.plan m.areas m.devices)
      (λ s. let yes = none_elim 18 _ (omega arith) (rw s at e) in (s, yes 0 (omega arith), yes 1 (omega arith)))
      (λ s. absurd (omega (arith, rw s at e)))

  -- nothing is worn then
  pub round_refused : eqb (round_number_of m lent) 0 ≡ false → (worn : Worn) → worn ≡ no_worn →
      record { plan = m.plan; areas = m.areas; devices = m.devices; ages = m.ages; wear = add_worn (replicate 4 worn) 4 m.wear } ≡ after_round m answers lent
  unfolding after_round add_worn
  round_refused e worn none = rw (none, e)

  pub round_memory_refused : eqb (round_number_of m lent) 0 ≡ false → lent ≡ memory_after_round m answers lent
  unfolding memory_after_round
  round_memory_refused e = rw e

  module _ (e : round_number_of m lent ≡ 0) where
    pub round_accepted : (areas : List Area) (devices : List Device) (wear : List ℕ) →
        areas ≡ areas_after (ranked_of m) m.areas (halves_of m.plan m.areas m.devices m.ages answers lent).core →
        devices ≡ devices_after (halves_of m.plan m.areas m.devices m.ages answers lent).core →
        wear ≡ wear_after_round m.plan m.areas m.devices answers lent m.wear →
        record { plan = m.plan; areas = areas; devices = devices; ages = m.ages; wear = wear } ≡ after_round m answers lent
    unfolding after_round
    round_accepted areas devices wear f g h =
        rw (eq-eqb (round_number_of m lent) 0 e) (λ i. record { plan = m.plan; areas = f i; devices = g i; ages = m.ages; wear = h i })

    pub round_memory_accepted : (halves_of m.plan m.areas m.devices m.ages answers lent).memory ≡ memory_after_round m answers lent
    unfolding memory_after_round
    round_memory_accepted = rw (eq-eqb (round_number_of m lent) 0 e)
