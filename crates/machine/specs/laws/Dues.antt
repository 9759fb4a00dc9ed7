-- A round finds the due segments of all pending jobs once: the soundness test with them is question 9.
use Rattle.std.specs.Prelude.{ℕ, ◌+◌, ◌-◌, ◌≤◌, ◌<◌, Bool, true, false, List, None, ◌≡◌, ltb, get_or, length, take}
use Rattle.std.specs.declared.option.Option.{Option}
use Rattle.std.proofs.Common.{true≢false, sym, ap, ◌∙◌}
use Rattle.std.proofs.Math.Path.{refl, fun_ext}
use native.Mathlib.Omega.{arith}
use borrow.Author.Tests.{le-ltb}
use Rattle.arith.specs.Bounded.{every, some, every_intro, some_intro}
use Rattle.arith.specs.Cases.{pick, by_bool, by_ltb}
use Rattle.arith.specs.Tables.{table, table_at}
use Rattle.plan.specs.Questions.{area_of, sub_area_of, device_of, length_sum, counts_fit}
use Rattle.plan.specs.declared.records.AreaRecord.{AreaRecord}
use Rattle.plan.specs.declared.records.DeviceRecord.{DeviceRecord}
use Rattle.plan.specs.declared.records.Plan.{Plan}
use Rattle.plan.specs.declared.records.SubAreaRecord.{SubAreaRecord}
use Rattle.rules.specs.Machine.{is_pending}
use Rattle.segment.specs.laws.Found.{index_of, Inside, segment_if, index_within, offset_inside, if_found, segment_from_lem}
use Rattle.segment.specs.Mapping.{located}
use Rattle.segment.specs.laws.LookupLaws.{located_front}
use Rattle.segment.specs.Segments.{no_segment, segment_at, segment_of}
use Rattle.segment.specs.declared.FoundByte.{FoundByte}
use Rattle.segment.specs.declared.Segment.{Segment}
use Rattle.state.specs.declared.Area.{Area}
use Rattle.state.specs.declared.Device.{Device}
use Rattle.state.specs.declared.DeviceState.{DeviceState}
use Rattle.state.specs.declared.DeviceState.TheVariants.{Free, Runs, LockedFor}
use Rattle.state.specs.declared.Job.{Job}
use Rattle.devices.specs.Arrays.{job_in, state_in}
use Rattle.machine.specs.Sound.{job_runs, request_fits, request_sound, state_sound, is_sound}
use Rattle.machine.specs.laws.SoundCases.{devices_decide, counts_few}

abbrev pub due_found : List SubAreaRecord → ℕ → ℕ → ℕ → Job → Option FoundByte
due_found l n start a j = pick (is_pending j) (located l n start a (j.task.address.0 + j.processed)) None

-- the due segment of area a's job, if it is pending
abbrev pub due_of : List SubAreaRecord → ℕ → List AreaRecord → List Area → ℕ → Segment
due_of l n records areas a =
    segment_of (job_in areas a).task.kind l ((job_in areas a).task.length - (job_in areas a).processed)
    (due_found l n (area_of records a).start.0 a (job_in areas a))

unfoldable pub dues_of : List SubAreaRecord → ℕ → List AreaRecord → List Area → List Segment
dues_of l n records areas = table 8 (due_of l n records areas) no_segment 8

-- by the first n records, lent
pub due_front : (n : ℕ) (l : List SubAreaRecord) → n ≤ length l → (start a : ℕ) (j : Job) →
    due_found (take n l) (length (take n l)) start a j ≡ due_found l n start a j
due_front n l h start a j = ap (λ f. pick (is_pending j) f None) (located_front n l h start a (j.task.address.0 + j.processed))

-- a turn of the loop over the areas
module _ (l : List SubAreaRecord) (n start a : ℕ) (j : Job) (f : Option FoundByte) (e : f ≡ due_found l n start a j) where
  abbrev at : ℕ
  at = j.task.address.0 + j.processed

  pub due_index : n ≤ 32 → index_of f < 32
  due_index few =
      by_bool (is_pending j)
      (λ t. index_within l a n start at f (e ∙ ap (λ u. pick u (located l n start a at) None) t) few)
      (λ t. rw (e, t) (omega arith))

  pub due_inside : n ≤ 32 → Inside (sub_area_of l (index_of f)) f
  due_inside few =
      by_bool (is_pending j)
      (λ t. offset_inside l a n start at f (e ∙ ap (λ u. pick u (located l n start a at) None) t) few)
      (λ t. rw (e, t) tt)

  pub due_turn : (i : ℕ) (r : Segment) → i ≡ index_of f → r ≡ segment_if j.task.kind (sub_area_of l i) (j.task.length - j.processed) f →
      r ≡ segment_of j.task.kind l (j.task.length - j.processed) (due_found l n start a j)
  due_turn i r g h =
      h ∙ ap (λ k. segment_if j.task.kind (sub_area_of l k) (j.task.length - j.processed) f) g
      ∙ if_found j.task.kind l (j.task.length - j.processed) f ∙ ap (segment_of j.task.kind l (j.task.length - j.processed)) e

-- the list has, for each pending job, its due segment
abbrev pub Due : Plan → List Segment → (ℕ → Job) → Type 0
Due p dues jobs = (a : ℕ) → a < 8 → is_pending (jobs a) ≡ true → get_or dues a no_segment ≡ segment_at p a (jobs a).task (jobs a).processed

pub dues_found : (p : Plan) (areas : List Area) → Due p (dues_of p.sub_areas p.sub_area_count p.areas areas) (job_in areas)
unfolding dues_of
dues_found p areas a h e =
    table_at 8 (due_of p.sub_areas p.sub_area_count p.areas areas) no_segment 8 a no_segment h (omega arith)
    ∙ rw e (segment_from_lem p a (job_in areas a).task (job_in areas a).processed)

abbrev pub is_running : DeviceState → Bool
is_running Free = false
is_running (LockedFor a) = false
is_running (Runs a polls) = true

-- where nothing runs, every device passes
pub none_runs : (p : Plan) (areas : List Area) (devices : List Device) → counts_fit p.device_count p.area_count p.sub_area_count ≡ true →
    some (λ d. is_running (state_in devices d)) 4 ≡ false → true ≡ is_sound p areas devices
none_runs p areas devices e none =
    sym (every_intro (λ d. state_sound p d (job_in areas) (state_in devices d)) p.device_count λ d h. passes d (omega (arith, h, (counts_few p e).0)) (state_in devices d) refl)
    ∙ devices_decide p areas devices e
  where
    passes : (d : ℕ) → d < 4 → (x : DeviceState) → state_in devices d ≡ x → state_sound p d (job_in areas) x ≡ true
    passes d h Free f = refl
    passes d h (LockedFor a) f = refl
    passes d h (Runs a polls) f = absurd (true≢false (sym (some_intro (λ k. is_running (state_in devices k)) 4 d h (ap is_running f)) ∙ none))

-- the area whose request a device runs
abbrev pub runner_of : DeviceState → ℕ
runner_of Free = 0
runner_of (LockedFor a) = 0
runner_of (Runs a polls) = pick (ltb a 8) a 0

abbrev pub state_fits : ℕ → DeviceRecord → ℕ → AreaRecord → ℕ → Job → Segment → DeviceState → Bool
state_fits n holder areas place d j s Free = true
state_fits n holder areas place d j s (LockedFor a) = true
state_fits n holder areas place d j s (Runs a polls) = request_fits n holder areas place d j s a polls

-- the segment of the request that a device in this state runs, where the job of its area is j
abbrev pub running_segment : Plan → Job → DeviceState → Segment
running_segment p j Free = no_segment
running_segment p j (LockedFor a) = no_segment
running_segment p j (Runs a polls) = pick (ltb a 8) (segment_at p a j.task j.processed) no_segment

-- found for one device, it decides as the rules' test
module _ (p : Plan) (few : p.area_count ≤ 8) (holders : List DeviceRecord) (holders-are : holders ≡ p.devices) (records : List AreaRecord) (records-are : records ≡ p.areas) (n : ℕ)
    (n-is : n ≡ length_sum p.devices p.device_count) (d : ℕ) (areas : List Area) where
  pub running_decides : (x : DeviceState) (a : ℕ) → a ≡ runner_of x → (s : Segment) → s ≡ running_segment p (job_in areas a) x →
      state_fits n (device_of holders d) p.area_count (area_of records a) d (job_in areas a) s x ≡ state_sound p d (job_in areas) x
  unfolding request_sound
  running_decides Free a e s g = refl
  running_decides (LockedFor b) a e s g = refl
  running_decides (Runs b polls) a e s g =
      by_ltb b 8
      (λ t h. rw (g, n-is, holders-are, records-are, e, t))
      (λ t h. let z : p.area_count ≤ b = omega arith in rw (le-ltb _ _ z))

abbrev pub fits_in : List DeviceRecord → ℕ → List AreaRecord → ℕ → List Area → List Device → List Segment → ℕ → Bool
fits_in holders count records number areas devices dues d =
    let a = runner_of (state_in devices d) in
    state_fits (length_sum holders count) (device_of holders d) number (area_of records a) d (job_in areas a) (get_or dues a no_segment) (state_in devices d)

-- a turn of the loop over the devices
pub state_turn : (holders : List DeviceRecord) (count : ℕ) (records : List AreaRecord) (number : ℕ) (areas : List Area) (devices : List Device) (dues : List Segment) →
    (d a : ℕ) → a ≡ runner_of (state_in devices d) → (n : ℕ) → n ≡ length_sum holders count → (r : Bool) →
    r ≡ state_fits n (device_of holders d) number (area_of records a) d (job_in areas a) (get_or dues a no_segment) (state_in devices d) →
    fits_in holders count records number areas devices dues d ≡ r
state_turn holders count records number areas devices dues d a e n f r g = sym (g ∙ rw (f, e))

module _ (p : Plan) (few : p.area_count ≤ 8) (areas : List Area) (devices : List Device) (dues : List Segment) (found : Due p dues (job_in areas)) where
  request_same : (d a polls : ℕ) → a < 8 →
      request_fits (length_sum p.devices p.device_count) (device_of p.devices d) p.area_count (area_of p.areas a) d (job_in areas a)
      (get_or dues a no_segment) a polls ≡ request_sound p d a polls (job_in areas a)
  unfolding request_sound job_runs
  request_same d a polls h = by_bool (is_pending (job_in areas a)) (λ e. rw (found a h e)) (λ e. rw e)

  state_same : (d : ℕ) (x : DeviceState) → state_in devices d ≡ x →
      fits_in p.devices p.device_count p.areas p.area_count areas devices dues d ≡ state_sound p d (job_in areas) x
  unfolding request_sound
  state_same d Free e = rw e
  state_same d (LockedFor a) e = rw e
  state_same d (Runs a polls) e =
      by_ltb a 8
      (λ t h. rw (e, t) (request_same d a polls h))
      (λ t h. let z : p.area_count ≤ a = omega arith in rw (e, t, le-ltb _ _ z))

  -- the test with the segments found is the test of question 9
  pub fits_decide : counts_fit p.device_count p.area_count p.sub_area_count ≡ true →
      every (fits_in p.devices p.device_count p.areas p.area_count areas devices dues) p.device_count ≡ is_sound p areas devices
  fits_decide e =
      ap (λ f. every f p.device_count) (fun_ext λ d. state_same d (state_in devices d) refl)
      ∙ devices_decide p areas devices e

-- what the questions of a round leave to it
abbrev pub DueIfSound : Plan → List Area → List Device → List Segment → Type 0
DueIfSound p areas devices dues = is_sound p areas devices ≡ true → Due p dues (job_in areas)
