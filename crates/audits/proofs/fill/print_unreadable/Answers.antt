use Rattle.std.proofs.Common.{sym, ◌∙◌}
use Rattle.audits.specs.laws.FillLaws.{unreadable_printed}
use Rattle.audits.proofs.fill.print_unreadable.Goals as goal

pub returns : goal.returns
returns c = λ plan facts. unreadable_printed plan facts c.args.cursor (sym c.is_over.ensures ∙ c.if-is_over.false) (rw c.unreadable_row.ensures at c.print_row.ensures)
