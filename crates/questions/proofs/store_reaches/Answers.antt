use Rattle.std.proofs.Common.{rules, leb, arith, length}
use Rattle.arith.specs.InLists.{all_in_slice}
use Rattle.plan.specs.Records.{no_area}
use Rattle.plan.specs.Questions.{window_end}
use Rattle.rules.specs.Admission.{store_reaches}
use Rattle.questions.proofs.store_reaches.Goals as goal

pub returns : goal.returns
unfolding store_reaches
returns c =
    all_in_slice no_area c.args.plan.areas (λ area. leb (window_end area) (length c.args.store.now)) c.args.plan.area_count (omega arith) c.all.ensures.ran (cc) (λ x b q k. search rules)
