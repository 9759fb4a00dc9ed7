-- What a device does for an area, as the code asks it.
use Rattle.std.specs.Prelude.{ℕ, ◌<◌, Bool, true, false, List, ◌≡◌, refl, length}
use Rattle.std.proofs.lemmas.Bool.{false≢true}
use Rattle.std.proofs.Common.{true≢false, sym, ◌∙◌, arith}
use Rattle.std.proofs.Math.Path.{ap}
use Rattle.arith.specs.Bounded.{some, some_intro}
use Rattle.arith.specs.Cases.{pick, by_bool, by_leb}
use Rattle.arith.specs.Parts.{upd_same}
use Rattle.plan.specs.declared.records.Plan.{Plan}
use Rattle.rules.specs.Admission.{holds_lock}
use Rattle.rules.specs.Layout.{Layout, layout_of}
use Rattle.rules.specs.Machine.{Core, need, cancelled, ended, holds, cancel}
use Rattle.segment.specs.Segments.{segment_at}
use Rattle.segment.specs.declared.Segment.{Segment}
use Rattle.state.specs.declared.Device.{Device}
use Rattle.state.specs.declared.Job.{Job}
use Rattle.devices.specs.laws.ArrayLaws.{device_past, state_past}
use Rattle.devices.specs.Arrays.{device_in, state_in}

-- a lock is held on a device that the manager has
pub lock_known : (devices : List Device) (d a n : ℕ) → length devices ≡ n → holds_lock a (state_in devices d) ≡ true → d < n
lock_known devices d a n e h =
    by_leb n d (λ _ l. absurd (false≢true (sym (ap (holds_lock a) (state_past devices d (omega (arith, e, l)))) ∙ h))) (λ _ l. l)

-- where no device holds a request of area a: nor does the one that its job needs
module _ (devices : List Device) (a n : ℕ) (long : length devices ≡ n) (none : some (λ d. holds a (device_in devices d)) n ≡ false) where
  pub none_held : (d : ℕ) → holds a (device_in devices d) ≡ false
  none_held d =
      by_leb n d
      (λ _ l. ap (holds a) (device_past devices d (omega (arith, long, l))))
      (λ _ l. by_bool (holds a (device_in devices d)) (λ t. absurd (true≢false (sym (some_intro (λ k. holds a (device_in devices k)) n d l t) ∙ none))) (λ f. f))

-- the segment s that is due of job j, and the device that it lies on
module _ (p : Plan) (j : Job) (devices : List Device) (a : ℕ) (s : Segment) (is : s ≡ segment_at p a j.task j.processed) where
  pub area_held : (x : Device) → x ≡ device_in devices s.device → holds a x ≡ holds a (device_in devices (need (layout_of p) a j))
  unfolding layout_of
  area_held x here = ap (holds a) here ∙ ap (λ t. holds a (device_in devices t.device)) is

-- the job of a cancelled area. Test: does its device hold its request?
pub cancel_job : (p : Layout) (a : ℕ) (c : Core) (t : Bool) → t ≡ holds a (c.devices (need p a (c.jobs a))) →
    pick t (cancelled (c.jobs a)) (ended 3 (c.jobs a)) ≡ (cancel p a c).jobs a
unfolding cancel
cancel_job p a c t e =
    rw e (by_bool (holds a (c.devices (need p a (c.jobs a)))) (λ f. rw f (sym (upd_same c.jobs a _))) (λ f. rw f (sym (upd_same c.jobs a _))))

-- it hangs on that job alone
pub cancel_alone : (p : Layout) (a : ℕ) (c : Core) → (cancel p a (record { jobs = λ _. c.jobs a; devices = c.devices })).jobs a ≡ (cancel p a c).jobs a
cancel_alone p a c = sym (cancel_job p a (record { jobs = λ _. c.jobs a; devices = c.devices }) _ refl) ∙ cancel_job p a c _ refl
