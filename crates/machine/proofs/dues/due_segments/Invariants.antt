use mathlib.Core.Path.{◌≡◌}
use Rattle.segment.specs.Segments.{no_segment}
use Rattle.arith.specs.Tables.{table}
use Rattle.machine.specs.laws.Dues.{due_of}
use Rattle.machine.proofs.dues.due_segments.Given as goal

abbrev pub invariant-loop-a : goal.invariant-loop-a
invariant-loop-a l = l.dues ≡ table 8 (due_of l.fn.sub_areas l.count l.area_records l.areas) no_segment l.a
