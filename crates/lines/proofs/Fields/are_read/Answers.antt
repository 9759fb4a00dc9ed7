use Rattle.lines.specs.laws.FieldLaws.{past_last}
use Rattle.lines.proofs.Fields.are_read.Goals as goal

pub returns : goal.returns
returns c = rw (← c.self.view_is) (past_last 32 c.self.inside.line.now c.self.inside.at)
