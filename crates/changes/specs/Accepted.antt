-- What a refused call leaves.
use Rattle.std.specs.Prelude.{ℕ, eqb}
use Rattle.arith.specs.Cases.{pick}

-- "any other refusal returns the number and the manager given", "other answer fields 0": the first where the number is 0
abbrev pub if_accepted : {A : Type 0} → ℕ → A → A → A
if_accepted n accepted refused = pick (eqb n 0) accepted refused
