use Rattle.std.proofs.Common.{ap, sym, ◌∙◌, arith}
use Rattle.effects.specs.Effects.{memory_of}
use Rattle.manager.specs.Calls.{manager_of}
use Rattle.session.specs.Play.{round_text}
use Rattle.session.specs.laws.RoundLaws.{round_shows}
use Rattle.texts.specs.laws.PageLaws.{prints_same}
use Rattle.session.proofs.play.play_round.Goals as goal

pub print_round-requires-clause-sub_area_count_bound : goal.print_round-requires-clause-sub_area_count_bound
print_round-requires-clause-sub_area_count_bound c =
    let m = c.args.manager.now in
    let r = c.round_change-answer.ensures in
    λ z. round_shows m _ (memory_of c.args.image.now c.args.store.now) (sym (r.answer_value m.wear) ∙ z) _ (r.manager_value m.wear)

pub returns : goal.returns
returns c =
    let m = c.args.manager.now in
    let r = c.round_change-answer in
    let next = ap (manager_of m.plan r.result.areas r.result.devices m.ages) c.add_worn.ensures ∙ r.ensures.manager_value m.wear in
    record {
      manager_value = next;
      image_after = r.ensures.image_after m.wear;
      store_after = r.ensures.store_after m.wear;
      printed = prints_same (λ i. round_text (r.ensures.answer_value m.wear i) (next i)) (omega arith) c.print_round.ensures;
    }
