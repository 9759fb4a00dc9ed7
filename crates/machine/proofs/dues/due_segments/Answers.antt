use Rattle.std.proofs.Common.{◌∙◌, ap, ap₂, sym, arith, set}
use Rattle.arith.specs.Tables.{table, table_more}
use Rattle.devices.specs.Arrays.{job_in}
use Rattle.plan.specs.Questions.{area_of}
use Rattle.machine.specs.laws.Dues.{dues_of, due_turn, due_front}
use Rattle.machine.proofs.dues.due_segments.Goals as goal

pub loop-a-init : goal.loop-a-init
unfolding table
loop-a-init c = rw c.no_segment-dues.ensures

pub loop-a-preserved : goal.loop-a-preserved
loop-a-preserved c =
    let a = c.loop-a.a in
    let start = (area_of c.args.area_records a).start.0 in
    let job = job_in c.args.areas a in
    let found = c.locate_due-found.ensures ∙ due_front c.args.count c.args.sub_areas (omega arith) start a job in
    ap₂ (λ dues due. set dues a due) c.loop-a.invariant (due_turn _ _ start a job _ found _ _ c.index_of.ensures c.segment_found.ensures)
    ∙ sym (table_more 8 _ _ _)

pub returns : goal.returns
unfolding dues_of
returns c = c.loop-a.invariant ∙ ap (table 8 _ _) (omega arith)
