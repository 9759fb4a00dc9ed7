use Rattle.std.proofs.Common.{rules, ◌∙◌}
use Rattle.state.specs.Fresh.{fresh_area, free_device}
use Rattle.interface.specs.Views.{area_view, device_view, view_is}
use Rattle.arith.specs.Mapped.{mapped}
use Rattle.interface.proofs.luvdrog_load.Goals as goal

pub returns : goal.returns
returns c =
    let l = c.load-loaded in
    let areas = mapped _ area_view fresh_area 8 (λ p x y q h. search rules) c.map.ensures.items in
    let devices = mapped _ device_view free_device 4 (λ p x y q h. search rules) c.map-2.ensures.items in
    rw (areas, devices) (view_is _ _ l.result.manager (c.answer_number.ensures ∙ l.ensures.answer_value) l.ensures.manager_value)
