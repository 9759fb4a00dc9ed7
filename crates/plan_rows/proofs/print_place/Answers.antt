use Rattle.std.proofs.Common.{arith}
use Rattle.texts.specs.laws.PageLaws.{prints_none, prints_same}
use Rattle.plan_rows.specs.laws.PlanRowLaws.{place_text, place_none}
use Rattle.plan_rows.proofs.print_place.Goals as goal

pub returns-in-Some : goal.returns-in-Some
returns-in-Some c = prints_same (place_text _ _ _ c.in-Some.ensures) (omega arith) c.print_row.ensures

pub returns-in-None : goal.returns-in-None
returns-in-None c = prints_same (place_none _ _ c.in-None.ensures) (omega arith) (prints_none _)
