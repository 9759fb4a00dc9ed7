use Rattle.rules.specs.Admission.{release_questions}
use native.Mathlib.Omega.{arith}
use mathlib.Core.Path.{sym, ◌∙◌}
use Rattle.arith.specs.FirstNo.{first_no}
use borrow.Author.Tests.{lt-ltb, le-ltb}
use Rattle.questions.proofs.release_admission.Goals as goal

pub returns-then-not-sound : goal.returns-then-not-sound
unfolding first_no release_questions
returns-then-not-sound c = simp (c.if-not-sound.true)

pub returns-then-plan-area : goal.returns-then-plan-area
unfolding first_no release_questions
returns-then-plan-area c = simp (c.if-not-sound.false, le-ltb _ _ c.if-plan-area.true)

pub is_inside-requires : goal.is_inside-requires
is_inside-requires c = let few = c.requires (c.if-not-sound.false) in (few.1, omega (arith, few.0, c.if-plan-area.false))

pub returns-then-not-is_inside : goal.returns-then-not-is_inside
unfolding first_no release_questions
returns-then-not-is_inside c = simp (c.if-not-sound.false, lt-ltb _ _ c.if-plan-area.false, sym c.is_inside.ensures ∙ c.if-not-is_inside.true)

pub on_one_device-requires : goal.on_one_device-requires
on_one_device-requires c = let few = c.requires (c.if-not-sound.false) in (few.1, omega (arith, few.0, c.if-plan-area.false), sym c.is_inside.ensures ∙ c.if-not-is_inside.false)

pub returns-then-not-on_one_device : goal.returns-then-not-on_one_device
unfolding first_no release_questions
returns-then-not-on_one_device c = simp (c.if-not-sound.false, lt-ltb _ _ c.if-plan-area.false, sym c.is_inside.ensures ∙ c.if-not-is_inside.false, sym c.on_one_device.ensures ∙ c.if-not-on_one_device.true)

pub range_device-device-requires : goal.range_device-device-requires
range_device-device-requires c = let few = c.requires (c.if-not-sound.false) in (few.1, omega (arith, few.0, c.if-plan-area.false))

pub returns-then-not-holds_lock : goal.returns-then-not-holds_lock
unfolding first_no release_questions
returns-then-not-holds_lock c = simp (c.if-not-sound.false, lt-ltb _ _ c.if-plan-area.false, sym c.is_inside.ensures ∙ c.if-not-is_inside.false, sym c.on_one_device.ensures ∙ c.if-not-on_one_device.false, ← c.range_device-device.ensures, sym c.holds_lock.ensures ∙ c.if-not-holds_lock.true)

pub returns : goal.returns
unfolding first_no release_questions
returns c = simp (c.if-not-sound.false, lt-ltb _ _ c.if-plan-area.false, sym c.is_inside.ensures ∙ c.if-not-is_inside.false, sym c.on_one_device.ensures ∙ c.if-not-on_one_device.false, ← c.range_device-device.ensures, sym c.holds_lock.ensures ∙ c.if-not-holds_lock.false)
