use Rattle.std.proofs.Common.{◌&&◌, eqb, arith, rules}
use Rattle.arith.specs.InLists.{any_in_slice}
use Rattle.plan.specs.Questions.{is_of}
use Rattle.plan.specs.Records.{no_sub_area}
use Rattle.plan.specs.declared.records.SubAreaRecord.{SubAreaRecord}
use Rattle.rules.specs.statements.JobSets.{is_on}
use Rattle.plan_rows.proofs.is_on.Goals as goal

pub returns : goal.returns
unfolding is_on
returns c =
    any_in_slice no_sub_area c.args.plan.sub_areas (λ (r : SubAreaRecord). is_of c.args.area r && eqb r.device c.args.device) c.args.plan.sub_area_count (omega arith) c.any.ensures.ran (cc) (λ x b q k. search rules)
