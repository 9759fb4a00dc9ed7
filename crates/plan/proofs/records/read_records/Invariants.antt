use Rattle.std.proofs.Common.{◌≡◌, ◌+◌, ◌*◌}
use Rattle.arith.specs.Tables.{table}
use Rattle.plan.proofs.records.read_records.Given as goal

abbrev pub invariant-loop-i : goal.invariant-loop-i
invariant-loop-i g l = l.records ≡ table g.row.N (λ j. g.T.Record.record_at l.bytes (l.from + j * g.T.Record.FORMAT.size)) g.T.Record.blank l.i
