use Rattle.rules.specs.Admission.{info_questions}
use Rattle.arith.specs.FirstNo.{first_no}
use borrow.Author.Tests.{lt-ltb, le-ltb}
use Rattle.questions.proofs.info_admission.Goals as goal

pub returns-then-not-sound : goal.returns-then-not-sound
unfolding first_no info_questions
returns-then-not-sound c = simp (c.if-not-sound.true)

pub returns-then-plan-area : goal.returns-then-plan-area
unfolding first_no info_questions
returns-then-plan-area c = simp (c.if-not-sound.false, le-ltb _ _ c.if-plan-area.true)

pub returns : goal.returns
unfolding first_no info_questions
returns c = simp (c.if-not-sound.false, lt-ltb _ _ c.if-plan-area.false)
