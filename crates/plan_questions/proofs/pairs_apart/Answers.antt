use Rattle.std.proofs.Common.{rules, ◌∙◌, length, get_or, take, arith}
use Rattle.std.proofs.lemmas.List.{take_all}
use Rattle.std.proofs.lemmas.Iterator.{YieldsList-from_slice}
use Rattle.std.proofs.lemmas.Iterator.Consumers.{YieldsList-from_enumerate}
use Rattle.std.proofs.lemmas.Iterator.Search.{all_from_yields_List}
use Rattle.arith.specs.Bounded.{every, every_same}
use Rattle.arith.specs.InLists.{every_numbered, every_of_first}
use Rattle.plan_questions.proofs.pairs_apart.Goals as goal

pub returns : goal.returns
returns g c =
    let items = c.args.items.now in
    let all = take_all (length items) items (omega arith) in
    all_from_yields_List (λ p. every (λ i. g.T.Apart.apart (get_or (take p.0 items) i g.T.Apart.blank) p.1) (length (take p.0 items))) _ _ _ c.all.ensures.ran
    (YieldsList-from_enumerate (YieldsList-from_slice (take (length items) items) (cc)) (cc))
    (λ x b q k. search rules)
    ∙ every_numbered g.T.Apart.blank items _ (length items) (omega arith)
    ∙ every_same _ _ (length items)
    (λ j l. every_of_first g.T.Apart.blank items (λ earlier. g.T.Apart.apart earlier (get_or items j g.T.Apart.blank)) j (omega arith))
