use Rattle.std.proofs.Common.{◌≡◌}
use Rattle.lines.specs.Fields.{cut_from, in_front}
use Rattle.lines.specs.laws.FieldLaws.{word}
use Rattle.lines.proofs.part_end.Given as goal

abbrev pub invariant-loop-i : goal.invariant-loop-i
invariant-loop-i l = cut_from l.mark l.bytes l.from ≡ in_front (word l.bytes l.from l.i) (cut_from l.mark l.bytes l.i)
