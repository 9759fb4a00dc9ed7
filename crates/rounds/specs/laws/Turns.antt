-- The first half of a round, as the code goes: a device at a time, with the due segments that were found before it.
use Rattle.std.specs.Prelude.{ℕ, ◌≤◌, ◌<◌, true, List, ◌≡◌, refl, length, get_or, set}
use Rattle.std.proofs.Common.{sym, ap, subst, ◌∙◌, arith, lt-ltb}
use Rattle.arith.specs.Parts.{upd, upd_case}
use Rattle.devices.specs.laws.ArrayLaws.{view_set, job_set}
use Rattle.machine.specs.laws.Dues.{Due, runner_of}
use Rattle.devices.specs.Arrays.{job_in, device_in, state_in, core_in}
use Rattle.machine.specs.Sound.{request_sound, state_sound}
use Rattle.memory.specs.declared.DeviceAnswer.{DeviceAnswer}
use Rattle.plan.specs.Questions.{area_of, device_of}
use Rattle.plan.specs.declared.records.AreaRecord.{AreaRecord}
use Rattle.plan.specs.declared.records.DeviceRecord.{DeviceRecord}
use Rattle.plan.specs.declared.records.Plan.{Plan}
use Rattle.plan.specs.declared.records.SubAreaRecord.{SubAreaRecord}
use Rattle.rules.specs.Admission.{image_fits, store_reaches}
use Rattle.rules.specs.Machine.{is_pending, doing}
use Rattle.rules.specs.Memory.{Memory}
use Rattle.rules.specs.Round.{take_in}
use Rattle.segment.specs.Segments.{no_segment, segment_at}
use Rattle.segment.specs.declared.Segment.{Segment}
use Rattle.state.specs.Fresh.{fresh_area}
use Rattle.state.specs.declared.Area.{Area}
use Rattle.state.specs.declared.Device.{Device}
use Rattle.state.specs.declared.DeviceState.{DeviceState}
use Rattle.state.specs.declared.DeviceState.TheVariants.{Free, Runs, LockedFor}
use Rattle.state.specs.declared.Job.{Job}
use Rattle.requests.specs.Requests.{Fits, request_fits_lem, job_taken_lem, due_taken, state_taken, memory_taken, found_fits}
use Rattle.answers.specs.laws.Answers.{Lent, turn_area, turn_state, turn_due, turn_memory}
use Rattle.rounds.specs.laws.AnswerLaws.{core_kept, free_core, free_memory, locked_core, locked_memory, runs_core, runs_memory}
use Rattle.rounds.specs.laws.Halves.{both}
use Rattle.close.specs.Close.{lent_to}

-- one due segment more
due_set : (p : Plan) (dues : List Segment) (jobs : ℕ → Job) (k : ℕ) (e : Segment) (j : Job) → k < length dues → Due p dues jobs →
    (is_pending j ≡ true → e ≡ segment_at p k j.task j.processed) → Due p (set dues k e) (upd jobs k j)
due_set p dues jobs k e j h found new b l =
    upd_case (λ i. is_pending i ≡ true → get_or (set dues k e) b no_segment ≡ segment_at p b i.task i.processed) jobs k b j
    (λ same pending. view_set (λ s. s) dues no_segment k e h b ∙ upd_case (λ s. s ≡ segment_at p b j.task j.processed) (λ i. get_or dues i no_segment) k b e
    (λ _. new pending ∙ ap (λ i. segment_at p i j.task j.processed) same) (λ apart. absurd (apart same)))
    (λ apart pending. view_set (λ s. s) dues no_segment k e h b ∙ upd_case (λ s. s ≡ segment_at p b (jobs b).task (jobs b).processed) (λ i. get_or dues i no_segment) k b e
    (λ same. absurd (apart same)) (λ _. found b l pending))

-- one turn of the loop over the devices
module _ (p : Plan) (few : p.area_count ≤ 8) (d : ℕ) (y : DeviceAnswer) (areas : List Area) (devices : List Device) (dues : List Segment) (image store : List ℕ)
    (sound : state_sound p d (job_in areas) (state_in devices d) ≡ true) (fits : image_fits p image ≡ true) (reaches : store_reaches p store ≡ true) (found : Due p dues (job_in areas)) where
  abbrev m : Memory
  m = record { image = image; store = store }

  abbrev entry : ℕ → Area
  entry k = get_or areas k fresh_area

  abbrev due : ℕ → Segment
  due k = get_or dues k no_segment

  -- the request that runs is for a known area, whose due segment is the one found
  module _ (a polls : ℕ) (e : state_in devices d ≡ Runs a polls) where
    runs_sound : request_sound p d a polls (job_in areas a) ≡ true
    runs_sound = rw e at sound

    holds : Fits p d a polls (job_in areas a) image store
    holds = request_fits_lem p d a polls (job_in areas a) image store runs_sound fits reaches

    runs_known : a < 8
    runs_known = let h = holds in omega (arith, h.known, few)

    runs_pending : is_pending (job_in areas a) ≡ true
    runs_pending = holds.pending

    runs_due : due a ≡ segment_at p a (job_in areas a).task (job_in areas a).processed
    runs_due = found a runs_known runs_pending

  turn_lent : (x : DeviceState) → state_in devices d ≡ x → (k : ℕ) → k ≡ runner_of x → Lent (area_of p.areas k) (entry k) (due k) image store x
  turn_lent Free e k f = tt
  turn_lent (LockedFor a) e k f = tt
  turn_lent (Runs a polls) e k f =
      rw (f, lt-ltb a 8 (runs_known a polls e)) (found_fits p d a polls (job_in areas a) y m (due a) (runs_due a polls e) (holds a polls e))

  turn_memory_lem : (x : DeviceState) → state_in devices d ≡ x → (k : ℕ) → k ≡ runner_of x →
      turn_memory (area_of p.areas k) (device_of p.devices d) (entry k) (due k) y m x ≡ (take_in p d y (lent_to areas devices m)).memory
  turn_memory_lem Free e k f = free_memory p d y areas devices m e
  turn_memory_lem (LockedFor a) e k f = locked_memory p d y areas devices m a e
  turn_memory_lem (Runs a polls) e k f =
      rw (f, lt-ltb a 8 (runs_known a polls e))
      (memory_taken p d a polls (job_in areas a) y m (due a) (runs_due a polls e) ∙ runs_memory p d y areas devices m a polls e)

  module _ (areas-are : length areas ≡ 8) (devices-are : length devices ≡ 4) (dues-are : length dues ≡ 8) (there : d < 4) where
    kept : {x : DeviceState} → x ≡ state_in devices d → doing x (device_in devices d) ≡ device_in devices d
    kept e = ap (λ x. doing x (device_in devices d)) e

    -- the area is set to the job that it has now
    with_due : (k : ℕ) (r : Area) (s : Segment) → k < 8 → (is_pending r.job ≡ true → s ≡ segment_at p k r.job.task r.job.processed) →
        Due p (set dues k s) (job_in (set areas k r))
    with_due k r s h new =
        subst (Due p (set dues k s)) (sym (job_set areas k r (omega arith))) (due_set p dues (job_in areas) k s r.job (omega arith) found new)

    kept_due : (k : ℕ) (r : Area) (s : Segment) → k < 8 → r ≡ entry k → s ≡ due k → Due p (set dues k s) (job_in (set areas k r))
    kept_due k r s h e f = with_due k r s h (λ pending. rw (f, e) (found k h (subst (λ x. is_pending x.job ≡ true) e pending)))

    turn_core : (x : DeviceState) → state_in devices d ≡ x → (k : ℕ) → k ≡ runner_of x → (r : Area) (s : Segment) (z : Device) →
        r ≡ turn_area p.sub_areas p.sub_area_count (area_of p.areas k) (device_of p.devices d) (entry k) (due k) y m x →
        s ≡ turn_due p.sub_areas p.sub_area_count (area_of p.areas k) (entry k) (due k) y m x →
        z ≡ doing (turn_state (area_of p.areas k) (device_of p.devices d) (entry k) (due k) y m x) (device_in devices d) →
        (core_in (set areas k r) (set devices d z) ≡ (take_in p d y (lent_to areas devices m)).core) × Due p (set dues k s) (job_in (set areas k r))
    turn_core Free e k f r s z =
        λ g h i. (
          core_kept areas devices k r d z (omega (arith, f, areas-are)) (omega arith) (ap (λ x. x.job) g) (i ∙ kept (sym e)) ∙ free_core p d y areas devices m e,
          kept_due k r s (omega (arith, f)) g h,
        )
    turn_core (LockedFor a) e k f r s z =
        λ g h i. (
          core_kept areas devices k r d z (omega (arith, f, areas-are)) (omega arith) (ap (λ x. x.job) g) (i ∙ kept (sym e)) ∙ locked_core p d y areas devices m a e,
          kept_due k r s (omega (arith, f)) g h,
        )
    turn_core (Runs a polls) e k f r s z =
        let known = runs_known a polls e in
        let is = runs_due a polls e in
        rw (f, lt-ltb a 8 known)
        (λ g h i. (
          runs_core p d y areas devices m a polls e r z (omega (arith, known, areas-are)) (omega arith)
              (job_taken_lem p d a polls (job_in areas a) y m (due a) is r.job (ap (λ x. x.job) g))
              (i ∙ ap (λ x. doing x (device_in devices d)) (state_taken p d a polls (job_in areas a) y m (due a) is _ refl)),
          with_due a r s known (due_taken p d a polls (job_in areas a) y m (due a) is r.job s (ap (λ x. x.job) g) h),
        ))

  -- the same for the arrays that the code has copied from the plan
  module _ (l : List SubAreaRecord) (records : List AreaRecord) (holders : List DeviceRecord) (l-is : l ≡ p.sub_areas) (records-are : records ≡ p.areas)
      (holders-are : holders ≡ p.devices) (k : ℕ) (k-is : k ≡ runner_of (state_in devices d)) where
    pub lent_turn : Lent (area_of records k) (entry k) (due k) image store (state_in devices d)
    lent_turn = rw records-are (turn_lent (state_in devices d) refl k k-is)

    -- what the turn leaves: arrays and memory are those of the rules, and the due segments go along
    pub whole_turn : length areas ≡ 8 → length devices ≡ 4 → length dues ≡ 8 → d < 4 → (r : Area) (s : Segment) (z : Device) (i t : List ℕ) →
        r ≡ turn_area l p.sub_area_count (area_of records k) (device_of holders d) (entry k) (due k) y m (state_in devices d) →
        s ≡ turn_due l p.sub_area_count (area_of records k) (entry k) (due k) y m (state_in devices d) →
        z ≡ doing (turn_state (area_of records k) (device_of holders d) (entry k) (due k) y m (state_in devices d)) (device_in devices d) →
        i ≡ (turn_memory (area_of records k) (device_of holders d) (entry k) (due k) y m (state_in devices d)).image →
        t ≡ (turn_memory (area_of records k) (device_of holders d) (entry k) (due k) y m (state_in devices d)).store →
        ((core_in (set areas k r) (set devices d z), record { image = i; store = t }) ≡ both (take_in p d y (lent_to areas devices m)))
        × Due p (set dues k s) (job_in (set areas k r))
    whole_turn areas-are devices-are dues-are there r s z i t =
        rw (l-is, records-are, holders-are)
        (λ g h j e f.
        let turn = turn_core areas-are devices-are dues-are there (state_in devices d) refl k k-is r s z g h j in
        let memory : record { image = i; store = t } ≡ (take_in p d y (lent_to areas devices m)).memory =
        (λ n. record { image = e n; store = f n }) ∙ turn_memory_lem (state_in devices d) refl k k-is in
        ((λ n. (turn.0 n, memory n)), turn.1))
