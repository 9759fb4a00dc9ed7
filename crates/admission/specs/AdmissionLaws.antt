-- Questions 12 to 15 by the cases that the code tests.
use Rattle.std.specs.Prelude.{ℕ, true, false, ◌≡◌, refl}
use Rattle.std.proofs.lemmas.Bool.{false≢true}
use Rattle.arith.specs.FirstNo.{first_no}
use Rattle.memory.specs.declared.JobType.{JobType}
use Rattle.memory.specs.declared.JobType.TheVariants.{NoJob, Write, Read, Compare, Erase, BlankCheck, Lock}
use Rattle.memory.specs.declared.Task.{Task}
use Rattle.plan.specs.declared.records.Plan.{Plan}
use Rattle.rules.specs.Admission.{is_inside, is_aligned, uses_window, fits_window, if_asked, on_one_device, range_questions}
use Rattle.segment.specs.Segments.{is_lock}

-- a lock request uses no window
lock_no_window : (k : JobType) → is_lock k ≡ true → uses_window k ≡ false
lock_no_window Lock e = refl
lock_no_window NoJob e = refl
lock_no_window Erase e = refl
lock_no_window BlankCheck e = refl
lock_no_window Write e = absurd (false≢true e)
lock_no_window Read e = absurd (false≢true e)
lock_no_window Compare e = absurd (false≢true e)

module _ (p : Plan) (a : ℕ) (t : Task) where
  pub range_outside : is_inside p a t.address t.length ≡ false → 12 ≡ first_no 12 (range_questions p a t)
  unfolding first_no
  range_outside e = rw e

  module _ (inside : is_inside p a t.address t.length ≡ true) where
    module _ (lock : is_lock t.kind ≡ true) where
      pub range_split : on_one_device p a t.address t.length ≡ false → 15 ≡ first_no 12 (range_questions p a t)
      unfolding first_no
      range_split e = simp (inside, lock, lock_no_window t.kind lock, e)

      pub range_locks : on_one_device p a t.address t.length ≡ true → 0 ≡ first_no 12 (range_questions p a t)
      unfolding first_no
      range_locks e = simp (inside, lock, lock_no_window t.kind lock, e)

    module _ (job : is_lock t.kind ≡ false) where
      pub range_unaligned : is_aligned p a t ≡ false → 13 ≡ first_no 12 (range_questions p a t)
      unfolding first_no
      range_unaligned e = simp (inside, job, e)

      module _ (aligned : is_aligned p a t ≡ true) where
        pub range_long : if_asked (uses_window t.kind) (fits_window p a t) ≡ false → 14 ≡ first_no 12 (range_questions p a t)
        unfolding first_no
        range_long e = simp (inside, job, aligned, e)

        pub range_fits : if_asked (uses_window t.kind) (fits_window p a t) ≡ true → 0 ≡ first_no 12 (range_questions p a t)
        unfolding first_no
        range_fits e = simp (inside, job, aligned, e)
