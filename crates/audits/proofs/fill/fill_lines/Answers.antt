use Rattle.std.proofs.Common.{inr, sym, ◌∙◌}
use Rattle.audits.specs.laws.FillLaws.{filling_next, filling_stops, line_begins}
use Rattle.audits.proofs.fill.fill_lines.Goals as goal

pub print_line-cursor-requires : goal.print_line-cursor-requires
print_line-cursor-requires c = line_begins c.args.manager c.requires.loaded.0 _ _ _ (c.facts_of-facts.ensures _ c.requires.loaded.1)

pub loop-place-preserved : goal.loop-place-preserved
loop-place-preserved c =
    let a = c.args in
    let l = c.loop-place in
    filling_next a.manager a.input.now a.place l.place l.invariant c.next_job-found.result c.next_job-found.ensures (sym c.is_over.ensures ∙ c.if-is_over.true) _
    (c.facts_of-facts.ensures _ c.requires.loaded.1) _ c.print_line-cursor.ensures

pub returns-after-loop-place : goal.returns-after-loop-place
returns-after-loop-place c =
    let a = c.args in
    let l = c.loop-place in
    filling_stops a.manager a.input.now a.place l.place l.invariant (inr c.loop-place-test.false)
