-- The area that a free device picks.
use Prim.Native.Nat.{ℕ, zero, suc}
use Rattle.std.specs.Prelude.{Bool, true, false, ◌↔◌, ◌≡◌}
use Rattle.std.proofs.Common.{sym}
use Rattle.std.proofs.Math.Logic.Iff
use Rattle.std.proofs.Math.Path.{refl}
use Rattle.arith.specs.Cases.{pick, by_bool, by_eqb}
use Rattle.arith.specs.Plain.{plain}
use Rattle.memory.specs.declared.Task.{Task}
use Rattle.rules.proofs.laws.Laws.{Laws}
use Rattle.rules.specs.Layout.{Layout}
use Rattle.rules.specs.Machine.{Core, is_pending, need, ready, Choice, nobody, area, better, best}

-- ready is pending and needing the device
pub ready_plain : (p : Layout) (c : Core) (d a : ℕ) → (ready p c d a ≡ true) ↔ ((is_pending (c.jobs a) ≡ true) × (need p a (c.jobs a) ≡ d))
unfolding ready
ready_plain p c d a = simp plain Iff.rfl

-- the choice is area a, or an area ranked above it
abbrev pub NotBelow : Layout → Choice → ℕ → Type 0
NotBelow p nobody a = ⊥
NotBelow p (area b) a = (b ≡ a → ⊥) → p.outranks b a ≡ true

-- the choice is ready, if there is one
abbrev pub Ready : Layout → Core → ℕ → Choice → Type 0
Ready p c d nobody = Unit {0}
Ready p c d (area b) = ready p c d b ≡ true

module _ (p : Layout) (admits : ℕ → Task → Bool) (L : Laws p admits) where
  -- the better of area n and a choice is not below n
  pub better_not_below : (n : ℕ) (x : Choice) → NotBelow p (better p n x) n
  better_not_below n nobody = λ f. absurd (f refl)
  better_not_below n (area b) = go (p.outranks n b) refl
    where
      go : (t : Bool) → p.outranks n b ≡ t → NotBelow p (pick t (area n) (area b)) n
      go true e = λ f. absurd (f refl)
      go false e = λ f. L.ranks_differ n b (λ g. f (sym g)) e

  -- nor below any area that the choice is not below
  pub better_keeps : (n a : ℕ) (x : Choice) → NotBelow p x a → NotBelow p (better p n x) a
  better_keeps n a nobody h = absurd h
  better_keeps n a (area b) h = go (p.outranks n b) refl
    where
      go : (t : Bool) → p.outranks n b ≡ t → NotBelow p (pick t (area n) (area b)) a
      go true e = λ _. by_eqb b a (λ _ g. rw (← g) e) (λ _ g. L.ranks_chain n b a e (h g))
      go false e = h

-- the choice among the areas before n is ready
pub best_ready : (p : Layout) (c : Core) (d n : ℕ) → Ready p c d (best p c d n)
unfolding best
best_ready p c d zero = tt
best_ready p c d (suc n) = by_bool (ready p c d n) (λ e. rw e (above (best p c d n) e (best_ready p c d n))) (λ e. rw e (best_ready p c d n))
  where
    above : (x : Choice) → ready p c d n ≡ true → Ready p c d x → Ready p c d (better p n x)
    above nobody e f = e
    above (area b) e f = by_bool (p.outranks n b) (λ g. rw g e) (λ g. rw g f)
