use Rattle.std.proofs.Common.{◌≡◌, ◌+◌, ◌*◌}
use Rattle.arith.specs.Tables.{table}
use Rattle.plan.specs.Records.{wear_at, endurance_by}
use Rattle.plan.proofs.records.read_endurance.Given as goal

abbrev pub invariant-loop-i : goal.invariant-loop-i
invariant-loop-i l = l.endurance ≡ table 32 (endurance_by (λ j. wear_at l.bytes (l.from + j * 7)) l.i) 0 32
