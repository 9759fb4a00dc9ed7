-- Case analysis on a test, with what the test says.
use Rattle.std.specs.Prelude.{ℕ, ◌≤◌, ◌<◌, ◌≡◌, refl, Bool, true, false, ◌&&◌, ◌||◌, ltb, leb, eqb}
use Rattle.std.proofs.lemmas.Bool.{false≢true, eqb-false}
use Rattle.std.proofs.Common.{ltb-true, ltb-false, leb-true, leb-false, eqb-true}

-- the first value where the test holds, else the second
abbrev pub pick : {A : Type 0} → Bool → A → A → A
pick true a b = a
pick false a b = b

-- P by cases on a test, each case with the test's equation
pub by_bool : {P : Type 0} (t : Bool) → (t ≡ true → P) → (t ≡ false → P) → P
by_bool true f g = f refl
by_bool false f g = g refl

-- the same for a test on numbers: the equation, to rewrite with, and the fact, for omega
pub by_ltb : {P : Type 0} (a b : ℕ) → (ltb a b ≡ true → a < b → P) → (ltb a b ≡ false → b ≤ a → P) → P
by_ltb a b f g = by_bool (ltb a b) (λ e. f e (ltb-true a b e)) (λ e. g e (ltb-false a b e))

pub by_leb : {P : Type 0} (a b : ℕ) → (leb a b ≡ true → a ≤ b → P) → (leb a b ≡ false → b < a → P) → P
by_leb a b f g = by_bool (leb a b) (λ e. f e (leb-true a b e)) (λ e. g e (leb-false a b e))

pub by_eqb : {P : Type 0} (a b : ℕ) → (eqb a b ≡ true → a ≡ b → P) → (eqb a b ≡ false → (a ≡ b → ⊥) → P) → P
by_eqb a b f g = by_bool (eqb a b) (λ e. f e (eqb-true a b e)) (λ e. g e (eqb-false a b e))

-- a conjunction of tests is the tests
pub and_elim : (a b : Bool) → (a && b) ≡ true → (a ≡ true) × (b ≡ true)
and_elim true b e = (refl, e)
and_elim false b e = absurd (false≢true e)

pub and_intro : {a b : Bool} → a ≡ true → b ≡ true → (a && b) ≡ true
and_intro e f = rw (e, f)

-- a disjunction of tests is one of them
pub or_elim : {P : Type 0} (a b : Bool) → (a || b) ≡ true → (a ≡ true → P) → (b ≡ true → P) → P
or_elim true b e f g = f refl
or_elim false b e f g = g e

pub or_left : (a b : Bool) → a ≡ true → (a || b) ≡ true
or_left a b e = rw e

pub or_right : (a b : Bool) → b ≡ true → (a || b) ≡ true
or_right a b e = by_bool a (λ f. rw f) (λ f. rw (f, e))
