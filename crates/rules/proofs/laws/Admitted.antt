-- What acceptance of a call says.
use Rattle.std.specs.Prelude.{ℕ, ◌<◌, true, false, ◌≡◌}
use Rattle.std.proofs.lemmas.Bool.{false≢true}
use Rattle.std.proofs.Common.{sym, ap, arith}
use borrow.Author.Tests.{ltb-true, eqb-true, not-true}
use Rattle.arith.specs.Cases.{and_intro}
use Rattle.arith.specs.FirstNo.{none_elim}
use Rattle.memory.specs.declared.LogicalAddress.{LogicalAddress}
use Rattle.memory.specs.declared.Task.{Task}
use Rattle.plan.specs.declared.records.Plan.{Plan}
use Rattle.state.specs.declared.DeviceState.{DeviceState}
use Rattle.state.specs.declared.DeviceState.TheVariants.{Free, Runs, LockedFor}
use Rattle.rules.specs.Admission.{range_device, holds_lock, job_questions, release_questions, cancel_questions}
use Rattle.rules.specs.Admission.{job_number, release_number, cancel_number, admits}
use Rattle.rules.specs.Machine.{Core, is_pending}

-- question 16 is answered "yes" only for the holder of the lock
holds_lock_lem : (a : ℕ) (x : DeviceState) → holds_lock a x ≡ true → x ≡ LockedFor a
holds_lock_lem a Free e = absurd (false≢true e)
holds_lock_lem a (Runs b polls) e = absurd (false≢true e)
holds_lock_lem a (LockedFor b) e = ap LockedFor (sym (eqb-true a b e))

module _ (p : Plan) (c : Core) (a : ℕ) where
  -- the area is known and idle, and the questions of the plan alone are answered "yes"
  pub job_admitted : (t : Task) → job_number p c a t ≡ 0 → (a < p.area_count) × (is_pending (c.jobs a) ≡ false) × (admits p a t ≡ true)
  unfolding job_number job_questions admits
  job_admitted t e =
      let yes = none_elim 10 (job_questions p c a t) (omega arith) e in (
        ltb-true _ _ (yes 0 (omega arith)),
        not-true _ (yes 1 (omega arith)),
        and_intro (yes 2 (omega arith)) (and_intro (yes 3 (omega arith)) (and_intro (yes 4 (omega arith)) (yes 5 (omega arith)))),
      )

  -- the area holds the lock of the device of the range
  pub release_admitted : (address : LogicalAddress) (n : ℕ) → release_number p c a address n ≡ 0 → (c.devices (range_device p a address n)).state ≡ LockedFor a
  unfolding release_number release_questions
  release_admitted address n e =
      holds_lock_lem a (c.devices (range_device p a address n)).state (none_elim 10 (release_questions p c a address n) (omega arith) e 6 (omega arith))

  -- a job is pending
  pub cancel_admitted : cancel_number p c a ≡ 0 → is_pending (c.jobs a) ≡ true
  unfolding cancel_number cancel_questions
  cancel_admitted e = none_elim 10 (cancel_questions p c a) (omega arith) e 7 (omega arith)
