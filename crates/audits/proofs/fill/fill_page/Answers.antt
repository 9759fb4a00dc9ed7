use Rattle.std.proofs.Common.{arith}
use Rattle.audits.specs.laws.FillLaws.{plan_stops, plan_passes}
use Rattle.audits.proofs.fill.fill_page.Goals as goal

pub returns-then-rows-lt300 : goal.returns-then-rows-lt300
returns-then-rows-lt300 c =
    let a = c.args in
    let p = c.print_plan-rows.ensures in
    plan_stops a.manager a.input.now a.place c.requires.place_fits _ p.printed c.if-rows-lt300.true (p.full c.if-rows-lt300.true)

pub returns : goal.returns
returns c =
    let a = c.args in
    let p = c.print_plan-rows.ensures in
    plan_passes a.manager a.input.now a.place c.requires.place_fits c.print_plan-rows.result p.printed (omega (arith, c.if-rows-lt300.false, p.next_bounds.1)) _ c.print_line-cursor.ensures _
    c.fill_lines.ensures
