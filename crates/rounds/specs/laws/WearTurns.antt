-- The wear of a round. What the answers finish is told by the state before them: an erase that is done is finished, and a request is as it was until its
-- device's turn. So what they wear can be found before the first half.
use Prim.Native.Nat.{ℕ, zero, suc, ◌≤◌, ◌<◌}
use Rattle.std.specs.Prelude.{Bool, false, List, [], ◌∷◌, ◌≡◌, get_or}
use Rattle.std.proofs.Math.Bool.{true}
use Rattle.std.proofs.Common.{⊎_elim, ◌∙◌, lt-ltb}
use Rattle.std.proofs.Math.Path.{refl, sym, ap}
use Rattle.std.proofs.Math.Nat.{zero-div}
use native.Mathlib.Omega.{arith}
use Rattle.answers.specs.Worn.{is_done, worn_on}
use Rattle.arith.specs.Cases.{pick, by_eqb}
use Rattle.arith.specs.Plain.{plain}
use Rattle.arith.specs.Tables.{table, table_at, table_blank}
use Rattle.close.specs.Close.{lent_to, wear_after_round}
use Rattle.devices.specs.Arrays.{job_in, state_in, core_in}
use Rattle.machine.specs.Sound.{is_sound, job_runs, segment_fits, request_sound, state_sound}
use Rattle.machine.specs.laws.Dues.{Due, runner_of}
use Rattle.machine.specs.laws.SoundCases.{sound_counts}
use Rattle.memory.specs.declared.DeviceAnswer.{DeviceAnswer}
use Rattle.memory.specs.declared.DeviceAnswer.TheVariants as Answers
use Rattle.memory.specs.declared.JobType.{JobType}
use Rattle.memory.specs.declared.JobType.TheVariants.{NoJob, Write, Read, Compare, Erase, BlankCheck, Lock}
use Rattle.memory.specs.declared.Task.{Task}
use Rattle.plan.specs.declared.records.Plan.{Plan}
use Rattle.rules.specs.Layout.{layout_of}
use Rattle.rules.specs.Machine.{Core, Verdict, goes_on, finished, differs, failed, due}
use Rattle.rules.specs.Memory.{Memory, verdict_of}
use Rattle.rules.specs.Round.{Half, answer_for, verdict_on, verdict_in, take_all, add_erase, erases_on, erases_to}
use Rattle.rules.specs.Wear.{sectors_of, wear_after}
use Rattle.segment.specs.Segments.{is_erase, no_segment, segment_at}
use Rattle.segment.specs.declared.Segment.{Segment}
use Rattle.segment.specs.laws.Found.{sub_area_room, sector_kept}
use Rattle.state.specs.declared.Area.{Area}
use Rattle.state.specs.declared.Device.{Device}
use Rattle.state.specs.declared.DeviceState.{DeviceState}
use Rattle.state.specs.declared.DeviceState.TheVariants.{Free, Runs, LockedFor}
use Rattle.state.specs.declared.Job.{Job}
use Rattle.wear.specs.Wear.{sectors_in, no_worn, add_one, add_worn}
use Rattle.wear.specs.declared.Worn.{Worn}
use Rattle.rounds.specs.laws.AnswerLaws.{all_sound, later_device, later_job}
use Rattle.rounds.specs.laws.Halves.{both, bare, take_bare}

-- what an answer adds to the erases, without the memory
abbrev pub add_done : DeviceAnswer → JobType → Segment → List Segment → List Segment
add_done x k s l = pick (is_done x) (pick (is_erase k) (s ∷ l) l) l

unfoldable pub early_on : Plan → DeviceState → DeviceAnswer → (ℕ → Job) → List Segment → List Segment
early_on p Free x jobs l = l
early_on p (LockedFor a) x jobs l = l
early_on p (Runs a polls) x jobs l = add_done x (jobs a).task.kind (due (layout_of p) a (jobs a)) l

-- the erases that the answers of the devices below n finish, by the state before them
unfoldable pub early : Plan → List DeviceAnswer → ℕ → Core → List Segment
early p answers zero c = []
early p answers (suc n) c = early_on p (c.devices n).state (answer_for answers n) c.jobs (early p answers n c)

-- a done erase is finished, and of no other kind is an erase added
add_none : (v : Verdict) (k : JobType) (s : Segment) (l : List Segment) → is_erase k ≡ false → add_erase v k s l ≡ l
add_none finished k s l e = rw e
add_none goes_on k s l e = refl
add_none differs k s l e = refl
add_none failed k s l e = refl

adds : (x : DeviceAnswer) (k : JobType) (u v n : ℕ) (m : Memory) (s : Segment) (l : List Segment) → add_erase (verdict_of x k u v n m) k s l ≡ add_done x k s l
adds Answers.Pending k u v n m s l = refl
adds (Answers.Failed b) k u v n m s l = refl
adds Answers.Done Erase u v n m s l = refl
adds Answers.Done NoJob u v n m s l = refl
adds Answers.Done Write u v n m s l = refl
adds Answers.Done Read u v n m s l = refl
adds Answers.Done Compare u v n m s l = add_none (verdict_of Answers.Done Compare u v n m) Compare s l refl
adds Answers.Done BlankCheck u v n m s l = add_none (verdict_of Answers.Done BlankCheck u v n m) BlankCheck s l refl
adds Answers.Done Lock u v n m s l = refl

module _ (p : Plan) (answers : List DeviceAnswer) (h : Half)
    (all : (d : ℕ) → d < p.device_count → state_sound p d h.core.jobs (h.core.devices d).state ≡ true) where
  early_turn : (n : ℕ) → n < p.device_count → (l : List Segment) (x : DeviceState) → (h.core.devices n).state ≡ x →
      early_on p x (answer_for answers n) h.core.jobs l
      ≡ erases_on p x (verdict_on p x (answer_for answers n) (take_all p answers n h).core.jobs (take_all p answers n h).memory) (take_all p answers n h).core.jobs l
  unfolding early_on
  early_turn n m l Free e = refl
  early_turn n m l (LockedFor a) e = refl
  early_turn n m l (Runs a q) e =
      ap (λ j. add_done (answer_for answers n) j.task.kind (due (layout_of p) a j) l) (sym (later_job p answers h all n n a q (omega arith) m e))
      ∙ sym (adds (answer_for answers n) ((take_all p answers n h).core.jobs a).task.kind _ _ _ (take_all p answers n h).memory _ l)

  -- the erases of a round
  pub early_is : (n : ℕ) → n ≤ p.device_count → early p answers n h.core ≡ erases_to p answers n h
  unfolding early erases_to
  early_is zero l = refl
  early_is (suc n) l =
      let same = sym (ap (λ x. x.state) (later_device p answers h all n n (omega arith))) in
      ap (λ x. early_on p x (answer_for answers n) h.core.jobs (early p answers n h.core)) same
      ∙ ap (early_on p ((take_all p answers n h).core.devices n).state (answer_for answers n) h.core.jobs) (early_is n (omega arith))
      ∙ early_turn n (omega arith) (erases_to p answers n h) ((take_all p answers n h).core.devices n).state same

-- the sectors that a segment names are those of its sub-area
sectors_are : (p : Plan) (a : ℕ) (t : Task) (x : ℕ) → sectors_in (segment_at p a t x).length (segment_at p a t x).sector ≡ sectors_of p (segment_at p a t x)
unfolding sectors_in
sectors_are p a t x = ⊎_elim (λ none. rw none (zero-div _ ∙ sym (zero-div _))) (λ same. ap (sectors_in (segment_at p a t x).length) same) (sector_kept p a t x)

-- what the answer of device d wears, as the code finds it: by job and due segment of the area that the device runs
abbrev pub worn_for : List Area → List Device → List Segment → List DeviceAnswer → ℕ → Worn
worn_for areas devices dues answers d =
    worn_on (state_in devices d) (answer_for answers d) (job_in areas (runner_of (state_in devices d))).task.kind (get_or dues (runner_of (state_in devices d)) no_segment)

-- one request: the sums with what it wears are those with its segment put before the erases
module _ (p : Plan) (room : p.sub_area_count ≤ 32) (es : List Segment) (start : List ℕ) where
  step : (x : DeviceAnswer) (b q : ℕ) (j : Job) → let s = segment_at p b j.task j.processed in
      add_one (worn_on (Runs b q) x j.task.kind s) (wear_after p es start) ≡ wear_after p (add_done x j.task.kind s es) start
  unfolding wear_after
  step x b q j = go (is_done x) (is_erase j.task.kind) refl refl
    where
      s : Segment
      s = segment_at p b j.task j.processed

      go : (t u : Bool) → is_done x ≡ t → is_erase j.task.kind ≡ u →
          add_one (worn_on (Runs b q) x j.task.kind s) (wear_after p es start) ≡ wear_after p (add_done x j.task.kind s es) start
      go true true e f = rw (e, f, lt-ltb s.sub_area 32 (sub_area_room p room b j.task j.processed), sectors_are p b j.task j.processed)
      go true false e f = rw (e, f)
      go false u e f = rw e

  -- one device
  module _ (few : p.area_count ≤ 8) (areas : List Area) (devices : List Device) (dues : List Segment) (found : Due p dues (job_in areas)) (answers : List DeviceAnswer)
      (d : ℕ) (sound : state_sound p d (job_in areas) (state_in devices d) ≡ true) where
    turn : (x : DeviceState) → state_in devices d ≡ x →
        add_one (worn_on x (answer_for answers d) (job_in areas (runner_of x)).task.kind (get_or dues (runner_of x) no_segment)) (wear_after p es start)
        ≡ wear_after p (early_on p x (answer_for answers d) (job_in areas) es) start
    unfolding early_on request_sound job_runs segment_fits layout_of
    turn Free e = refl
    turn (LockedFor b) e = refl
    turn (Runs b q) e =
        let request : request_sound p d b q (job_in areas b) ≡ true = rw e at sound in
        let facts = simp plain at request in
        let known : b < 8 = omega (arith, facts.0, few) in
        rw (lt-ltb b 8 known, found b known facts.1.0.0) (step (answer_for answers d) b q (job_in areas b))

    wear_turn : add_one (worn_for areas devices dues answers d) (wear_after p es start)
        ≡ wear_after p (early_on p (state_in devices d) (answer_for answers d) (job_in areas) es) start
    wear_turn = turn (state_in devices d) refl

-- all devices: what the table of what they wear adds is the wear of the round
module _ (p : Plan) (areas : List Area) (devices : List Device) (sound : is_sound p areas devices ≡ true) (answers : List DeviceAnswer) (m : Memory) (dues : List Segment)
    (found : Due p dues (job_in areas)) (start : List ℕ) where
  few : (p.device_count ≤ 4) × (p.area_count ≤ 8) × (p.sub_area_count ≤ 32)
  few = sound_counts p areas devices sound

  abbrev worn : List Worn
  worn = table 4 (worn_for areas devices dues answers) no_worn p.device_count

  worn_to_lem : (n : ℕ) → n ≤ p.device_count → add_worn worn n start ≡ wear_after p (early p answers n (core_in areas devices)) start
  unfolding add_worn early early_on wear_after
  worn_to_lem zero l = refl
  worn_to_lem (suc n) l =
      rw (table_at 4 (worn_for areas devices dues answers) no_worn p.device_count n (record { sub_area = 0; sectors = 0 }) (omega arith) few.0, worn_to_lem n (omega arith))
      (wear_turn p few.2 (early p answers n (core_in areas devices)) start few.1 areas devices dues found answers n (all_sound p areas devices sound n (omega arith)))

  -- the others wear nothing
  worn_past : (n : ℕ) → p.device_count ≤ n → n ≤ 4 → add_worn worn n start ≡ add_worn worn p.device_count start
  unfolding add_worn
  worn_past zero l h = let none : 0 ≡ p.device_count = omega arith in ap (λ k. add_worn worn k start) none
  worn_past (suc n) l h =
      by_eqb p.device_count (suc n)
      (λ _ e. ap (λ k. add_worn worn k start) (sym e))
      (λ _ e. rw (table_blank 4 (worn_for areas devices dues answers) no_worn p.device_count n (record { sub_area = 0; sectors = 0 }) (omega arith) (omega arith)) (worn_past n (omega arith) (omega arith)))

  pub wear_all : add_worn worn 4 start ≡ wear_after_round p areas devices answers m start
  unfolding wear_after_round
  wear_all =
      worn_past 4 few.0 (omega arith)
      ∙ worn_to_lem p.device_count (omega arith)
      ∙ ap (λ es. wear_after p es start) (early_is p answers (lent_to areas devices m) (all_sound p areas devices sound) p.device_count (omega arith))

-- the erases of a round are told by core and memory
pub erases_bare : (p : Plan) (answers : List DeviceAnswer) (h : Half) (n : ℕ) → erases_to p answers n h ≡ erases_to p answers n (bare (both h))
unfolding erases_to
erases_bare p answers h zero = refl
erases_bare p answers h (suc n) =
    let finish : Core × Memory → List Segment → List Segment
    = λ x es. erases_on p (x.0.devices n).state (verdict_in p n (answer_for answers n) (bare x)) x.0.jobs es in
    ap (λ x. finish x (erases_to p answers n h)) (take_bare p answers h n)
    ∙ ap (finish (both (take_all p answers n (bare (both h))))) (erases_bare p answers h n)
