-- The area that a free device picks is above the others that are ready.
use Rattle.std.specs.Prelude.{ℕ, zero, suc, ◌<◌, Bool, true, false, ◌≡◌}
use Rattle.std.proofs.Common.{true≢false, sym, ap, ◌∙◌, arith}
use Rattle.std.proofs.Math.Path.{refl}
use Rattle.arith.specs.Bounded.{below_suc}
use Rattle.arith.specs.Cases.{pick}
use Rattle.memory.specs.declared.Task.{Task}
use Rattle.rules.proofs.laws.Best.{NotBelow, better_not_below, better_keeps}
use Rattle.rules.proofs.laws.Laws.{Laws}
use Rattle.rules.specs.Layout.{Layout}
use Rattle.rules.specs.Machine.{Core, ready, Choice, better, best}

module _ (p : Layout) (admits : ℕ → Task → Bool) (L : Laws p admits) (c : Core) (d : ℕ) where
  -- the choice among the areas before n is not below any of them that is ready
  pub best_not_below : (n a : ℕ) → a < n → ready p c d a ≡ true → NotBelow p (best p c d n) a
  unfolding best
  best_not_below zero a l r = absurd (omega arith)
  best_not_below (suc n) a l r = go (ready p c d n) refl (λ k. best_not_below n a k r)
    where
      x : Choice
      x = best p c d n

      go : (t : Bool) → ready p c d n ≡ t → (a < n → NotBelow p x a) → NotBelow p (pick t (better p n x) x) a
      go true e h = below_suc a n l (λ g. rw g (better_not_below p admits L n x)) (λ k. better_keeps p admits L n a x (h k))
      go false e h = below_suc a n l (λ g. absurd (true≢false (sym r ∙ ap (ready p c d) g ∙ e))) h
