-- The halves of a round do not look at the list of requests done.
use Prim.Native.Nat.{ℕ, zero, suc, ◌+◌}
use Rattle.std.specs.Prelude.{List, [], ◌≡◌}
use Rattle.std.proofs.Math.Path.{refl, ap}
use Rattle.std.proofs.Math.Numerals.{add-one}
use Rattle.memory.specs.declared.DeviceAnswer.{DeviceAnswer}
use Rattle.plan.specs.declared.records.Plan.{Plan}
use Rattle.rules.specs.Layout.{layout_at}
use Rattle.rules.specs.Machine.{Core, second_half}
use Rattle.rules.specs.Memory.{Memory}
use Rattle.rules.specs.Round.{Half, answer_for, take_in, take_all, round_halves}

-- core and memory of a half
abbrev pub both : Half → Core × Memory
both h = (h.core, h.memory)

-- a half with nothing but these
abbrev pub bare : Core × Memory → Half
bare x = record { core = x.0; memory = x.1; done = λ a. [] }

-- both halves of a round read no more, and so give the same of both
module _ (p : Plan) (answers : List DeviceAnswer) where
  pub take_bare : (h : Half) (n : ℕ) → both (take_all p answers n h) ≡ both (take_all p answers n (bare (both h)))
  unfolding take_all take_in
  take_bare h zero = refl
  take_bare h (suc n) = ap (λ x. both (take_in p n (answer_for answers n) (bare x))) (take_bare h n)

  pub round_bare : (ages : ℕ → ℕ) (h : Half) → both (round_halves p ages answers h) ≡ both (round_halves p ages answers (bare (both h)))
  unfolding round_halves
  round_bare ages h = ap (λ x. (second_half (layout_at p ages) p.device_count x.0, x.1)) (take_bare h p.device_count)

  -- a turn of the loop over the devices
  pub take_turn : (h : Half) (n : ℕ) (x : Core × Memory) → x ≡ both (take_all p answers n h) →
      both (take_in p n (answer_for answers n) (bare x)) ≡ both (take_all p answers (n + 1) h)
  unfolding take_all take_in
  take_turn h n x e = rw add-one (ap (λ y. both (take_in p n (answer_for answers n) (bare y))) e)
