use Rattle.std.proofs.Common.{rules, ◌+◌, ◌-◌, ◌∙◌, eqb, length, take, drop, arith}
use Rattle.std.proofs.lemmas.List.{take_all}
use Rattle.arith.specs.InLists.{all_in_slice}
use Rattle.transfer.specs.PartLaws.{blank_parts}
use Rattle.transfer.proofs.blank_part.Goals as goal

pub returns : goal.returns
returns c =
    let a = c.args in
    let lent = take (a.p + a.n - a.p) (drop a.p a.image.now) in
    let whole = take_all (length lent) lent (omega arith) in
    all_in_slice 0 lent (λ b. eqb b 255) (length lent) (omega arith) c.all.ensures.ran (cc) (λ x b q k. search rules)
    ∙ blank_parts a.image.now a.p a.n (omega arith)
