use Rattle.std.proofs.Common.{rules, arith}
use Rattle.std.proofs.lemmas.Fn.{always_returns_same}
use Rattle.arith.specs.InLists.{rises_in_slice}
use Rattle.plan.specs.Records.{no_sub_area}
use Rattle.plan.specs.declared.records.SubAreaRecord.{SubAreaRecord}
use Rattle.plan_questions.proofs.never_falling.Goals as goal

pub returns : goal.returns
returns c =
    rises_in_slice no_sub_area c.args.sub_areas (λ (s : SubAreaRecord). s.area) c.args.count (omega arith) _
    (c.is_sorted_by_key.ensures.cases (λ s. s.area) (always_returns_same _ _ _ (λ a r q k. search rules)))
