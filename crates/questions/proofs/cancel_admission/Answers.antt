use mathlib.Core.Path.{sym, ◌∙◌}
use Rattle.arith.specs.FirstNo.{first_no}
use borrow.Author.Tests.{lt-ltb, le-ltb}
use Rattle.questions.proofs.cancel_admission.Goals as goal

pub returns-then-not-sound : goal.returns-then-not-sound
unfolding first_no
returns-then-not-sound c = simp (c.if-not-sound.true)

pub returns-then-area_count-area : goal.returns-then-area_count-area
unfolding first_no
returns-then-area_count-area c = simp (c.if-not-sound.false, le-ltb _ _ c.if-area_count-area.true)

pub returns-then-not-is_pending : goal.returns-then-not-is_pending
unfolding first_no
returns-then-not-is_pending c = simp (c.if-not-sound.false, lt-ltb _ _ c.if-area_count-area.false, sym c.is_pending.ensures ∙ c.if-not-is_pending.true)

pub returns : goal.returns
unfolding first_no
returns c = simp (c.if-not-sound.false, lt-ltb _ _ c.if-area_count-area.false, sym c.is_pending.ensures ∙ c.if-not-is_pending.false)
