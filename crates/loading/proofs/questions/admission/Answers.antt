use mathlib.Core.Path.{sym, ◌∙◌}
use native.Mathlib.Omega.{arith}
use Rattle.plan.proofs.laws.SizeLaws.{counts, size_few}
use Rattle.loading.proofs.questions.admission.Goals as goal

pub devices_join-requires : goal.devices_join-requires
devices_join-requires c = let few = counts _ _ _ c.requires in omega arith

pub returns-then-not-devices_join : goal.returns-then-not-devices_join
unfolding Rattle.arith.specs.FirstNo.first_no Rattle.plan.specs.Questions.record_questions
returns-then-not-devices_join c = simp (c.if-not-devices_join.true, ← c.devices_join.ensures)

pub windows_fit-requires : goal.windows_fit-requires
windows_fit-requires c = let few = counts _ _ _ c.requires in omega arith

pub returns-then-not-windows_fit : goal.returns-then-not-windows_fit
unfolding Rattle.arith.specs.FirstNo.first_no Rattle.plan.specs.Questions.record_questions
returns-then-not-windows_fit c = simp (c.if-not-windows_fit.true, ← c.windows_fit.ensures, c.if-not-devices_join.false, ← c.devices_join.ensures)

pub all_sizes_fit-requires : goal.all_sizes_fit-requires
all_sizes_fit-requires c = let few = counts _ _ _ c.requires in omega arith

pub returns-then-not-all_sizes_fit : goal.returns-then-not-all_sizes_fit
unfolding Rattle.arith.specs.FirstNo.first_no Rattle.plan.specs.Questions.record_questions
returns-then-not-all_sizes_fit c = simp (c.if-not-all_sizes_fit.true, ← c.all_sizes_fit.ensures, c.if-not-windows_fit.false, ← c.windows_fit.ensures, c.if-not-devices_join.false, ← c.devices_join.ensures)

pub places_fit-requires : goal.places_fit-requires
places_fit-requires c = let few = counts _ _ _ c.requires in (omega arith, omega arith)

pub returns-then-not-places_fit : goal.returns-then-not-places_fit
unfolding Rattle.arith.specs.FirstNo.first_no Rattle.plan.specs.Questions.record_questions
returns-then-not-places_fit c = simp (c.if-not-places_fit.true, ← c.places_fit.ensures, c.if-not-all_sizes_fit.false, ← c.all_sizes_fit.ensures, c.if-not-windows_fit.false, ← c.windows_fit.ensures, c.if-not-devices_join.false, ← c.devices_join.ensures)

pub spaces_fit-requires : goal.spaces_fit-requires
spaces_fit-requires c =
    let few = counts _ _ _ c.requires in
    let d = sym c.devices_join.ensures ∙ c.if-not-devices_join.false in
    let e = sym c.places_fit.ensures ∙ c.if-not-places_fit.false in
    record { area_count_bound = (omega arith, omega arith, omega arith); sizes_bound = size_few _ d e }

pub returns-then-not-spaces_fit : goal.returns-then-not-spaces_fit
unfolding Rattle.arith.specs.FirstNo.first_no Rattle.plan.specs.Questions.record_questions
returns-then-not-spaces_fit c = simp (c.if-not-spaces_fit.true, ← c.spaces_fit.ensures, c.if-not-places_fit.false, ← c.places_fit.ensures, c.if-not-all_sizes_fit.false, ← c.all_sizes_fit.ensures, c.if-not-windows_fit.false, ← c.windows_fit.ensures, c.if-not-devices_join.false, ← c.devices_join.ensures)

pub all_apart-requires : goal.all_apart-requires
all_apart-requires c = let few = counts _ _ _ c.requires in omega arith

pub returns-then-not-all_apart : goal.returns-then-not-all_apart
unfolding Rattle.arith.specs.FirstNo.first_no Rattle.plan.specs.Questions.record_questions
returns-then-not-all_apart c = simp (c.if-not-all_apart.true, ← c.all_apart.ensures, c.if-not-spaces_fit.false, ← c.spaces_fit.ensures, c.if-not-places_fit.false, ← c.places_fit.ensures, c.if-not-all_sizes_fit.false, ← c.all_sizes_fit.ensures, c.if-not-windows_fit.false, ← c.windows_fit.ensures, c.if-not-devices_join.false, ← c.devices_join.ensures)

pub returns : goal.returns
unfolding Rattle.arith.specs.FirstNo.first_no Rattle.plan.specs.Questions.record_questions
returns c = simp (c.if-not-all_apart.false, ← c.all_apart.ensures, c.if-not-spaces_fit.false, ← c.spaces_fit.ensures, c.if-not-places_fit.false, ← c.places_fit.ensures, c.if-not-all_sizes_fit.false, ← c.all_sizes_fit.ensures, c.if-not-windows_fit.false, ← c.windows_fit.ensures, c.if-not-devices_join.false, ← c.devices_join.ensures)
