use Rattle.std.proofs.Common.{arith}
use Rattle.audit_run.specs.laws.OpenLaws.{open_loaded}
use Rattle.audit_run.proofs.audit_plan.Goals as goal

pub audit_jobs-requires : goal.audit_jobs-requires
audit_jobs-requires g c = let o = c.in-Ok.ensures in rw o.manager_value (open_loaded _ _ _ (omega arith) (omega arith) o.appended.0.ends)

pub returns-in-Ok-clause-accepted : goal.returns-in-Ok-clause-accepted
returns-in-Ok-clause-accepted g c =
    let o = c.in-Ok.ensures in
    λ _. (open_loaded _ _ _ (omega arith) (omega arith) o.appended.0.ends)
