use mathlib.Core.Path.{◌∙◌}
use Rattle.devices.specs.laws.DeviceLaws.{area_held}
use Rattle.devices.proofs.request_held.Goals as goal

pub returns : goal.returns
returns c =
    let a = c.args in
    c.holds.ensures ∙ area_held a.plan a.job a.devices a.area _ c.segment_at-segment.ensures _ c.device_on-device.ensures
