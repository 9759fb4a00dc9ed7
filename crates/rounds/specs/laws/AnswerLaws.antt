-- The first half of a round, a device at a time.
use Prim.Native.Nat.{ℕ, suc, zero, ◌≤◌, ◌<◌}
use Rattle.std.proofs.Math.Bool.{true}
use Rattle.std.specs.Prelude.{List, ◌≡◌, length, set}
use Rattle.std.proofs.Math.Path.{refl}
use Rattle.std.proofs.Common.{sym, ap, ◌∙◌, arith, eqb-true}
use Rattle.arith.specs.Bounded.{every_elim}
use Rattle.arith.specs.Parts.{upd, upd_other, upd_case}
use Rattle.arith.specs.Plain.{and_plain}
use Rattle.devices.specs.laws.ArrayLaws.{job_set, device_set}
use Rattle.devices.specs.Arrays.{job_in, device_in, state_in, core_in}
use Rattle.machine.specs.Sound.{segment_fits, request_sound, state_sound, is_sound}
use Rattle.memory.specs.declared.DeviceAnswer.{DeviceAnswer}
use Rattle.plan.specs.declared.records.Plan.{Plan}
use Rattle.rules.specs.Admission.{image_fits, store_reaches}
use Rattle.rules.specs.Layout.{layout_of}
use Rattle.rules.specs.Machine.{Core, Verdict, doing, take_on, take_answer}
use Rattle.rules.specs.Memory.{Memory}
use Rattle.rules.proofs.laws.StepLaws.{take_case, take_leaves}
use Rattle.rules.specs.Round.{Half, take_in, take_all, answer_for}
use Rattle.segment.specs.Segments.{segment_at}
use Rattle.state.specs.declared.Area.{Area}
use Rattle.state.specs.declared.Device.{Device}
use Rattle.state.specs.declared.DeviceState.{DeviceState}
use Rattle.state.specs.declared.DeviceState.TheVariants.{Free, Runs, LockedFor}
use Rattle.state.specs.declared.Job.{Job}
use Rattle.close.specs.Close.{lent_to}
use Rattle.requests.specs.Requests.{request_verdict, request_job, request_state, request_memory, same_map, taken_core}

-- both arrays with one entry changed
pub core_set : (areas : List Area) (devices : List Device) (a : ℕ) (x : Area) (d : ℕ) (y : Device) → a < length areas → d < length devices →
    core_in (set areas a x) (set devices d y) ≡ record { jobs = upd (job_in areas) a x.job; devices = upd (device_in devices) d y }
core_set areas devices a x d y h k = λ i. record { jobs = job_set areas a x h i; devices = device_set devices d y k i }

-- the areas with an entry set to what it is
pub device_changed : (areas : List Area) (devices : List Device) (a : ℕ) (x : Area) (d : ℕ) (y : Device) → a < length areas → d < length devices →
    x.job ≡ job_in areas a → core_in (set areas a x) (set devices d y) ≡ record { jobs = job_in areas; devices = upd (device_in devices) d y }
device_changed areas devices a x d y h k e =
    core_set areas devices a x d y h k ∙ rw e (λ i. record { jobs = sym (same_map (job_in areas) a) i; devices = upd (device_in devices) d y })

-- and the devices
pub core_kept : (areas : List Area) (devices : List Device) (a : ℕ) (x : Area) (d : ℕ) (y : Device) → a < length areas → d < length devices →
    x.job ≡ job_in areas a → y ≡ device_in devices d → core_in (set areas a x) (set devices d y) ≡ core_in areas devices
core_kept areas devices a x d y h k e f =
    device_changed areas devices a x d y h k e ∙ rw f (λ i. record { jobs = job_in areas; devices = sym (same_map (device_in devices) d) i })

module _ (p : Plan) (d : ℕ) (x : DeviceAnswer) (areas : List Area) (devices : List Device) (m : Memory) where
  -- "The answer for a device with nothing running is ignored."
  pub free_core : state_in devices d ≡ Free → core_in areas devices ≡ (take_in p d x (lent_to areas devices m)).core
  unfolding take_in take_answer
  free_core e = rw e

  pub free_memory : state_in devices d ≡ Free → m ≡ (take_in p d x (lent_to areas devices m)).memory
  unfolding take_in
  free_memory e = rw e

  pub locked_core : (a : ℕ) → state_in devices d ≡ LockedFor a → core_in areas devices ≡ (take_in p d x (lent_to areas devices m)).core
  unfolding take_in take_answer
  locked_core a e = rw e

  pub locked_memory : (a : ℕ) → state_in devices d ≡ LockedFor a → m ≡ (take_in p d x (lent_to areas devices m)).memory
  unfolding take_in
  locked_memory a e = rw e

  module _ (a polls : ℕ) (e : state_in devices d ≡ Runs a polls) where
    pub runs_core : (y : Area) (z : Device) → a < length areas → d < length devices → y.job ≡ request_job p d a polls (job_in areas a) x m →
        z ≡ doing (request_state p d a polls (job_in areas a) x m) (device_in devices d) →
        core_in (set areas a y) (set devices d z) ≡ (take_in p d x (lent_to areas devices m)).core
    unfolding take_in take_answer layout_of
    runs_core y z h k f g = core_set areas devices a y d z h k ∙ rw (f, g, e) (sym (taken_core (layout_of p) d a polls (request_verdict p a (job_in areas a) x m) (core_in areas devices)))

    pub runs_memory : request_memory p d a (job_in areas a) x m ≡ (take_in p d x (lent_to areas devices m)).memory
    unfolding take_in
    runs_memory = rw e

-- the device that a sound request runs on is the one that its area needs
request_device : (p : Plan) (d a polls : ℕ) (j : Job) → request_sound p d a polls j ≡ true → (segment_at p a j.task j.processed).device ≡ d
unfolding request_sound segment_fits
request_device p d a polls j e = eqb-true _ _ (simp and_plain at e).1.1.0

-- so two devices do not run for one area, and the answer of one leaves the others sound
module _ (p : Plan) (d k : ℕ) (apart : d ≡ k → ⊥) (v : Verdict) (c : Core) (here : state_sound p d c.jobs (c.devices d).state ≡ true) where
  other_sound : (a polls : ℕ) (j : Job) → (c.devices d).state ≡ Runs a polls → (y : DeviceState) → state_sound p k c.jobs y ≡ true →
      state_sound p k (upd c.jobs a j) y ≡ true
  other_sound a polls j e Free f = refl
  other_sound a polls j e (LockedFor b) f = refl
  other_sound a polls j e (Runs b q) f =
      upd_case (λ i. request_sound p k b q i ≡ true) c.jobs a b j
      (λ g. absurd (apart (sym (request_device p d a polls (c.jobs a) (rw e at here)) ∙ ap (λ i. (segment_at p i (c.jobs i).task (c.jobs i).processed).device) g
      ∙ request_device p k b q (c.jobs b) f)))
      (λ _. f)

  pub stays_sound : state_sound p k c.jobs (c.devices k).state ≡ true →
      state_sound p k (take_answer (layout_of p) d v c).jobs ((take_answer (layout_of p) d v c).devices k).state ≡ true
  unfolding take_answer
  stays_sound f = go (c.devices d).state refl
    where
      go : (x : DeviceState) → (c.devices d).state ≡ x → state_sound p k (take_on (layout_of p) d v x c).jobs ((take_on (layout_of p) d v x c).devices k).state ≡ true
      go Free e = f
      go (LockedFor a) e = f
      go (Runs a polls) e =
          rw (taken_core (layout_of p) d a polls v c, upd_other c.devices d k _ apart) (other_sound a polls _ e (c.devices k).state f)

-- in the first half every device that has not had its turn is sound
pub later_sound : (p : Plan) (answers : List DeviceAnswer) (h : Half) →
    ((d : ℕ) → d < p.device_count → state_sound p d h.core.jobs (h.core.devices d).state ≡ true) →
    (n k : ℕ) → n ≤ k → k < p.device_count →
    state_sound p k (take_all p answers n h).core.jobs ((take_all p answers n h).core.devices k).state ≡ true
unfolding take_all take_in
later_sound p answers h all zero k l m = all k m
later_sound p answers h all (suc n) k l m =
    stays_sound p n k (λ e. omega arith) _ (take_all p answers n h).core (later_sound p answers h all n n (omega arith) (omega arith))
    (later_sound p answers h all n k (omega arith) m)

-- and it is as it was before the round, with the job of its request
module _ (p : Plan) (answers : List DeviceAnswer) (h : Half)
    (all : (d : ℕ) → d < p.device_count → state_sound p d h.core.jobs (h.core.devices d).state ≡ true) where
  pub later_device : (n k : ℕ) → n ≤ k → (take_all p answers n h).core.devices k ≡ h.core.devices k
  unfolding take_all take_in
  later_device zero k l = refl
  later_device (suc n) k l = take_leaves _ n k _ _ (λ f. omega arith) ∙ later_device n k (omega arith)

  pub later_job : (n k a q : ℕ) → n ≤ k → k < p.device_count → (h.core.devices k).state ≡ Runs a q → (take_all p answers n h).core.jobs a ≡ h.core.jobs a
  unfolding take_all
  later_job zero k a q l m e = refl
  later_job (suc n) k a q l m e =
      let here = later_sound p answers h all n k (omega arith) m in
      let there = later_sound p answers h all n n (omega arith) (omega arith) in
      take_case p n (answer_for answers n) (take_all p answers n h) a (λ j _. j ≡ h.core.jobs a)
      (λ r f.
      absurd
      (omega
      (arith, request_device p n a r _ (rw f at there), request_device p k a q _ (rw (later_device n k (omega arith), e) at here))))
      (later_job n k a q (omega arith) m e)

-- what a sound state has for the loop
module _ (p : Plan) (areas : List Area) (devices : List Device) (sound : is_sound p areas devices ≡ true) where
  pub all_sound : (d : ℕ) → d < p.device_count → state_sound p d (job_in areas) (state_in devices d) ≡ true
  unfolding is_sound
  all_sound = every_elim _ _ (simp and_plain at sound).1

  pub turn_sound : (answers : List DeviceAnswer) (m : Memory) (n : ℕ) (c : Core) → c ≡ (take_all p answers n (lent_to areas devices m)).core → n < p.device_count →
      state_sound p n c.jobs (c.devices n).state ≡ true
  unfolding is_sound
  turn_sound answers m n c e l =
      rw e (later_sound p answers (lent_to areas devices m) (every_elim _ _ (simp and_plain at sound).1) n n (omega arith) l)

-- the lent lengths are all that questions 18 and 19 ask for
module _ (p : Plan) (l k : List ℕ) (e : length l ≡ length k) where
  pub image_again : image_fits p k ≡ true → image_fits p l ≡ true
  unfolding image_fits
  image_again f = rw e f

  pub store_again : store_reaches p k ≡ true → store_reaches p l ≡ true
  unfolding store_reaches
  store_again f = rw e f
