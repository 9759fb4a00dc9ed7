use Rattle.std.proofs.Common.{length, true, ◌≡◌}
use Rattle.audits.specs.Audits.{jobs_in}
use Rattle.audits.specs.laws.TableLaws.{TabledTo}
use Rattle.session.specs.AllLines.{lines_of}
use Rattle.audits.proofs.table_of.Given as goal

abbrev pub invariant-loop-a : goal.invariant-loop-a
invariant-loop-a l = record {
  long : length l.table ≡ 8;
  tabled : TabledTo l.manager (jobs_in l.manager.plan.device_count (lines_of true l.input)) l.table l.a;
}
