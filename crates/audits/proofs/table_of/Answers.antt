use Rattle.std.proofs.Common.{arith, length-set, true}
use Rattle.audits.specs.Audits.{jobs_in}
use Rattle.audits.specs.laws.TableLaws.{tabled_more}
use Rattle.session.specs.AllLines.{lines_of}
use Rattle.audits.proofs.table_of.Goals as goal

pub loop-a-preserved : goal.loop-a-preserved
loop-a-preserved c =
    let a = c.args in
    let l = c.loop-a in
    let js = jobs_in a.manager.plan.device_count (lines_of true a.input.now) in
    record {
      long = simp length-set l.invariant.long;
      tabled = tabled_more a.manager js l.table l.a _ (omega (arith, l.invariant.long)) c.jobs_above.ensures c.any_locks.ensures l.invariant.tabled;
    }
