-- What a device may run over an erase that it keeps.
use Rattle.std.specs.Prelude.{ℕ, ◌<◌, ◌≡◌, Some}
use Rattle.std.proofs.Math.Bool.{true, false}
use Rattle.std.proofs.Common.{true≢false, sym, ap, ◌∙◌}
use Rattle.std.proofs.lemmas.Bool.{false≢true}
use Rattle.std.proofs.Math.Path.{refl}
use Rattle.memory.specs.declared.JobType.{JobType}
use Rattle.memory.specs.declared.JobType.TheVariants as Types
use Rattle.segment.specs.Segments.{is_lock, is_erase}
use Rattle.state.specs.declared.DeviceState.TheVariants.{Runs}
use Rattle.rules.specs.Layout.{Layout}
use Rattle.rules.specs.Machine.{Core, is_pending, need, displaces}
use Rattle.rules.proofs.laws.Reachable.{Suspending, DeviceFits}

-- what displaces an erase is no erase, and no lock request
pub kinds : (k : JobType) → displaces k ≡ true → (is_erase k ≡ false) × (is_lock k ≡ false)
kinds Types.NoJob e = (refl, refl)
kinds Types.Write e = (refl, refl)
kinds Types.Read e = (refl, refl)
kinds Types.Compare e = (refl, refl)
kinds Types.BlankCheck e = (refl, refl)
kinds Types.Erase e = absurd (false≢true e)
kinds Types.Lock e = absurd (false≢true e)

-- device n keeps area b's erase with q polls, and area a's next request displaces it
module _ (p : Layout) (n : ℕ) (c : Core) (b q : ℕ) (f : Suspending p n b q (c.jobs b)) (a : ℕ) where
  pub other : displaces (c.jobs a).task.kind ≡ true → a ≡ b → ⊥
  other d g = true≢false (sym f.erases ∙ ap (λ i. is_erase (c.jobs i).task.kind) (sym g) ∙ (kinds (c.jobs a).task.kind d).0)

  pub new : (is_pending (c.jobs a) ≡ true) × (need p a (c.jobs a) ≡ n) → displaces (c.jobs a).task.kind ≡ true → 0 < p.limit n →
      DeviceFits p c.jobs n (record { state = Runs a 0; suspended = Some (record { area = b; polls = q }) })
  new waits d few =
      record {
        state = record { pending = waits.0; no_lock = (kinds (c.jobs a).task.kind d).1; needed = waits.1; few = few };
        suspended = f;
        apart = other d;
      }
