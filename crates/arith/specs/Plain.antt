-- Tests as the plain facts that they say: `simp plain` takes a test that holds to its facts, at a hypothesis and at a goal.
use Rattle.std.specs.Prelude.{ℕ, ◌≤◌, ◌<◌, ◌≡◌, Bool, true, ◌&&◌, ◌↔◌, ltb, leb, eqb}
use Rattle.std.specs.Int.{◌∣◌}
use Rattle.std.proofs.Common.{ltb-true, leb-true, eqb-true, lt-ltb, le-leb, eq-eqb}
use Rattle.arith.specs.Bounded.{every, some, every_elim, every_intro, some_elim, some_intro}
use Rattle.arith.specs.Cases.{and_elim, and_intro}
use Rattle.arith.specs.Multiples.{multiple, multiple_elim, multiple_intro}

-- a conjunction
pub and_plain : (a b : Bool) → ((a && b) ≡ true) ↔ ((a ≡ true) × (b ≡ true))
and_plain a b = (and_elim a b, λ h. and_intro h.0 h.1)

-- the tests on numbers
pub ltb_plain : (a b : ℕ) → (ltb a b ≡ true) ↔ (a < b)
ltb_plain a b = (ltb-true a b, lt-ltb a b)

pub leb_plain : (a b : ℕ) → (leb a b ≡ true) ↔ (a ≤ b)
leb_plain a b = (leb-true a b, le-leb a b)

pub eqb_plain : (a b : ℕ) → (eqb a b ≡ true) ↔ (a ≡ b)
eqb_plain a b = (eqb-true a b, eq-eqb a b)

pub multiple_plain : (u n : ℕ) → (multiple u n ≡ true) ↔ (u ∣ n)
multiple_plain u n = (multiple_elim u n, multiple_intro u n)

-- the tests over the numbers below n
module _ (p : ℕ → Bool) (n : ℕ) where
  pub every_plain : (every p n ≡ true) ↔ ((i : ℕ) → i < n → p i ≡ true)
  every_plain = (every_elim p n, every_intro p n)

  pub some_plain : (some p n ≡ true) ↔ ((i : ℕ) × (i < n) × (p i ≡ true))
  some_plain = (some_elim p n, λ w. some_intro p n w.0 w.1 w.2)

-- `multiple` is an `eqb`, and so stands before it
pub ruleset plain = (and_plain, multiple_plain, ltb_plain, leb_plain, eqb_plain, every_plain, some_plain)
