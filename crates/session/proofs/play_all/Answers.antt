use Rattle.std.proofs.Common.{arith}
use Rattle.session.specs.laws.FoldLaws.{all_refused, all_lines}
use Rattle.session.proofs.play_all.Goals as goal

pub returns-in-Ok : goal.returns-in-Ok
returns-in-Ok c =
    let a = c.args in
    let o = c.in-Ok.ensures in
    let l = c.play_lines.ensures in
    record { used_after = all_lines a.plan.now a.input.now a.image.now a.store.now _ _ o.manager_value o.appended.0 (omega arith) l.used_after; written_in_bounds = l.written_in_bounds }

pub returns-in-Err : goal.returns-in-Err
returns-in-Err c =
    let a = c.args in
    let o = c.in-Err.ensures in
    record { used_after = all_refused a.plan.now a.input.now a.image.now a.store.now _ o.manager_value o.appended.0 o.refused_text; written_in_bounds = (o.appended.1, omega arith) }
