use Prim.Native.Nat.{ℕ, min}
use mathlib.Core.List.{List}
use mathlib.Core.Path.{◌≡◌}
use lib.Bits.{bit_and}
use lib.ListN.{length, take, drop, get_or}
use Rattle.arith.specs.Listed.{listed}
use Rattle.transfer.proofs.and_all.Given as goal

-- byte i of the result
abbrev pub both : List ℕ → List ℕ → ℕ → ℕ
both dst src i = bit_and (get_or dst i 0) (get_or src i 0)

abbrev pub invariant-loop-i : goal.invariant-loop-i
invariant-loop-i l = (l.n ≡ min (length l.initial.dst) (length l.src)) × (length l.dst ≡ length l.initial.dst) × (take l.i l.dst ≡ listed (both l.initial.dst l.src) 0 l.i) × (drop l.i l.dst ≡ drop l.i l.initial.dst)
