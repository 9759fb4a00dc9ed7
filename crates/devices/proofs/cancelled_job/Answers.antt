use mathlib.Core.Bool.{true, false}
use mathlib.Core.Path.{sym, ◌∙◌}
use Rattle.rules.specs.Layout.{layout_of}
use Rattle.devices.specs.laws.DeviceLaws.{cancel_job}
use Rattle.devices.specs.Arrays.{device_in}
use Rattle.devices.proofs.cancelled_job.Goals as goal

pub returns-then-area_held : goal.returns-then-area_held
returns-then-area_held c =
    let a = c.args in
    c.cancelled.ensures ∙ cancel_job (layout_of a.plan) a.area (record { jobs = λ _. a.job; devices = device_in a.devices }) true (sym c.if-area_held.true ∙ c.area_held.ensures)

pub returns : goal.returns
returns c =
    let a = c.args in
    c.ended.ensures ∙ cancel_job (layout_of a.plan) a.area (record { jobs = λ _. a.job; devices = device_in a.devices }) false (sym c.if-area_held.false ∙ c.area_held.ensures)
