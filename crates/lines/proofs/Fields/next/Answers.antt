use Rattle.std.proofs.Common.{◌∙◌, ap, sym, ltb-false}
use Rattle.lines.specs.Fields.{is_last}
use Rattle.lines.specs.laws.FieldLaws.{past_last}
use Rattle.lines.proofs.Fields.next.Goals as goal

pub part_end-to-requires : goal.part_end-to-requires
part_end-to-requires c =
    let f = c.self.inside in
    ltb-false _ _ (past_last 32 f.line.now f.at ∙ ap is_last c.self.view_is ∙ sym c.if-are_read.ensures)
