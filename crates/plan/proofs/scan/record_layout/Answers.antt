use Rattle.plan.proofs.laws.RecordLaws.{layout_is}
use Rattle.plan.proofs.scan.record_layout.Goals as goal

pub returns : goal.returns
returns c =
    let d = c.run_from-devices.ensures in
    let a = c.run_from-areas.ensures in
    let s = c.run_from-sub_areas.ensures in
    let w = c.run_from-wear.ensures in
    record { value = layout_is _ _ _ _ _ _ _ _ _ d.0 d.1 a.0 a.1 s.0 s.1 w.0 w.1; end_in_bounds = w.2 }
