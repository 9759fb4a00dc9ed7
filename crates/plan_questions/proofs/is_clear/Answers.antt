use Rattle.std.proofs.Common.{rules, length, arith}
use Rattle.std.proofs.lemmas.List.{take_all}
use Rattle.arith.specs.InLists.{all_in_slice}
use Rattle.plan_questions.proofs.is_clear.Goals as goal

pub returns : goal.returns
returns g c =
    let others = c.args.others.now in
    let all = take_all (length others) others (omega arith) in
    all_in_slice g.T.Apart.blank others (λ other. g.T.Apart.apart other c.args.own) (length others) (omega arith) c.all.ensures.ran (cc) (λ x b q k. search rules)
