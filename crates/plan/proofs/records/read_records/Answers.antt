use Rattle.arith.specs.Tables.{table, table_more}
use Rattle.plan.proofs.records.read_records.Goals as goal

pub loop-i-init : goal.loop-i-init
unfolding table
loop-i-init g c = rw (g.met.T.Record.default_is_blank c.default-records.result c.default-records.ensures)

pub loop-i-preserved : goal.loop-i-preserved
loop-i-preserved g c = rw (table_more, c.read.ensures, c.FORMAT.ensures, c.loop-i.invariant)
