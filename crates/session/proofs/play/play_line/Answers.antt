use Rattle.std.proofs.Common.{refl, arith}
use Rattle.effects.specs.Effects.{memory_of}
use Rattle.session.specs.Play.{info_text}
use Rattle.session.specs.laws.PlayLaws.{line_is}
use Rattle.texts.specs.laws.PageLaws.{prints_same}
use Rattle.session.proofs.play.play_line.Goals as goal

pub returns-in-Some-Call : goal.returns-in-Some-Call
returns-in-Some-Call c =
    let a = c.args in
    let lent = memory_of a.image.now a.store.now in
    let p = c.play_call.ensures in
    line_is a.line _ _ a.manager.now c.play_call.new.manager lent lent c.in-Some-Call.is (rw c.in-Some-Call.is at c.in-Some-Call.field-0-is)
    (record { manager = p.manager_value; image = refl; store = refl; printed = p.printed })

pub returns-in-Some-Info : goal.returns-in-Some-Info
returns-in-Some-Info c =
    let a = c.args in
    let m = a.manager.now in
    let lent = memory_of a.image.now a.store.now in
    let r = c.info_of-asked.ensures in
    let p = c.print_info.ensures in
    line_is a.line _ _ m m lent lent c.in-Some-Info.is (rw c.in-Some-Info.is at c.in-Some-Info.field-0-is)
    (record {
      manager = refl;
      image = refl;
      store = refl;
      printed = prints_same (λ i. info_text (r.answer_value m.ages m.wear i) (r.info_value m.ages m.wear i)) (omega arith) p;
    })

pub returns-in-Some-Round : goal.returns-in-Some-Round
returns-in-Some-Round c =
    let a = c.args in
    let new = c.play_round.new in
    let p = c.play_round.ensures in
    line_is a.line _ _ a.manager.now new.manager (memory_of a.image.now a.store.now) (memory_of new.image new.store) c.in-Some-Round.is (rw c.in-Some-Round.is at c.in-Some-Round.field-0-is)
    (record { manager = p.manager_value; image = p.image_after; store = p.store_after; printed = p.printed })
