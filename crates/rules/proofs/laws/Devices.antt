-- What calls that are no round do to the devices.
use Rattle.std.specs.Prelude.{Bool, true, false, ◌≡◌, refl}
use Rattle.std.proofs.Common.{true≢false, sym, eq-eqb}
use Rattle.arith.specs.Parts.{upd_same, upd_other}
use Rattle.plan.specs.declared.records.Plan.{Plan}
use Rattle.rules.specs.Admission.{range_device, job_number, release_number, cancel_number}
use Rattle.rules.specs.Answers.{is_round, is_release}
use Rattle.rules.specs.History.{Call, submit, releases, cancels, asks, round, History, submitted, step}
use Rattle.rules.specs.Layout.{layout_of}
use Rattle.rules.specs.Machine.{need, holds, begin, cancel_if, cancel, release}
use Rattle.rules.proofs.laws.Admitted.{release_admitted}
use Rattle.rules.proofs.laws.StepLaws.{accept_case}
use Rattle.rules.specs.statements.Moments.{moment_of}
use Rattle.rules.specs.statements.Statements.{DevicesKept}

-- a call that is no round and no release
others_leave : (p : Plan) (h : History) (k : Call) → is_round k ≡ false → is_release k ≡ false → (step p k h).core.devices ≡ h.core.devices
unfolding step submitted begin cancel
others_leave p h (submit a t) e f = accept_case (λ (x : History). x.core.devices ≡ h.core.devices) (job_number p h.core a t) (λ _. refl) refl
others_leave p h (releases a address n) e f = absurd (true≢false f)
others_leave p h (cancels a) e f =
    accept_case (λ (x : History). x.core.devices ≡ h.core.devices) (cancel_number p h.core a)
    (λ _. leaves (holds a (h.core.devices (need (layout_of p) a (h.core.jobs a))))) refl
  where
    leaves : (t : Bool) → (cancel_if t a h.core).devices ≡ h.core.devices
    leaves true = refl
    leaves false = refl
others_leave p h (asks q) e f = refl
others_leave p h (round answers m) e f = absurd (true≢false e)

pub devices_kept : (p : Plan) (h : History) → DevicesKept p (moment_of p h)
unfolding step release
devices_kept p h =
    record {
      released = λ a address n e.
          let d = range_device p a address n in
          rw (eq-eqb (release_number p h.core a address n) 0 e) (
            release_admitted p h.core a address n e,
            upd_same h.core.devices d _,
            λ i f. upd_other h.core.devices d i _ (λ g. f (sym g)),
          );
      kept = others_leave p h;
    }
