use Rattle.std.proofs.Common.{ap, arith}
use Rattle.texts.specs.Texts.{number_line}
use Rattle.texts.specs.laws.PageLaws.{prints_same}
use Rattle.session.proofs.play.play_call.Goals as goal

pub returns : goal.returns
returns c =
    let made = c.make-area_number.ensures in
    let wear = c.args.manager.now.wear in
    record { manager_value = made.manager_value wear; printed = prints_same (ap number_line (made.answer_value wear)) (omega arith) c.print_answer.ensures }
