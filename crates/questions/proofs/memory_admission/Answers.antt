use Rattle.rules.specs.Admission.{memory_info_questions}
use native.Mathlib.Omega.{arith}
use mathlib.Core.Path.{sym, ◌∙◌}
use Rattle.arith.specs.FirstNo.{first_no}
use borrow.Author.Tests.{lt-ltb, le-ltb}
use Rattle.questions.proofs.memory_admission.Goals as goal

pub returns-then-not-sound : goal.returns-then-not-sound
unfolding first_no memory_info_questions
returns-then-not-sound c = simp (c.if-not-sound.true)

pub returns-then-plan-area : goal.returns-then-plan-area
unfolding first_no memory_info_questions
returns-then-plan-area c = simp (c.if-not-sound.false, le-ltb _ _ c.if-plan-area.true)

pub is_inside-requires : goal.is_inside-requires
is_inside-requires c = let few = c.requires (c.if-not-sound.false) in (few.1, omega (arith, few.0, c.if-plan-area.false))

pub returns-then-not-is_inside : goal.returns-then-not-is_inside
unfolding first_no memory_info_questions
returns-then-not-is_inside c = simp (c.if-not-sound.false, lt-ltb _ _ c.if-plan-area.false, sym c.is_inside.ensures ∙ c.if-not-is_inside.true)

pub returns : goal.returns
unfolding first_no memory_info_questions
returns c = simp (c.if-not-sound.false, lt-ltb _ _ c.if-plan-area.false, sym c.is_inside.ensures ∙ c.if-not-is_inside.false)
