use Rattle.std.proofs.Common.{◌≡◌, ◌<◌, ◌^◌, true}
use Rattle.arith.specs.Bounded.{every}
use Rattle.lines.specs.Number.{digit_at, value_of}
use Rattle.lines.proofs.number_of.Given as goal

abbrev pub invariant-loop-byte : goal.invariant-loop-byte
invariant-loop-byte l = (every (digit_at l.text) l.byte-index ≡ true) × (l.value ≡ value_of l.text l.byte-index) × (l.value < 2 ^ 32)
