use Rattle.std.proofs.Common.{◌+◌, ◌≤◌, ◌≡◌, Bool, true, false, refl, ap, ◌∙◌, arith}
use Rattle.std.specs.Int.{from_bool}
use Rattle.arith.specs.Bounded.{sum, sum_more}
use Rattle.arith.specs.Cases.{pick}
use Rattle.loops.specs.Cutting.{multiple_count}
use Rattle.loops.proofs.cutting.burst_tests.Goals as goal

one_if : (b : Bool) → (from_bool b ≡ pick b 1 0) × (from_bool b ≤ 1)
one_if true = (refl, omega arith)
one_if false = (refl, omega arith)

pub loop-i-init : goal.loop-i-init
unfolding sum
loop-i-init c = (refl, omega arith)

pub loop-i-preserved : goal.loop-i-preserved
loop-i-preserved c =
    let here = c.loop-i in
    let one = one_if c.is_multiple.result in
    let counted = c.from-count.ensures ∙ one.0 ∙ ap (λ yes. pick yes 1 0) c.is_multiple.ensures in (
      rw (sum_more, ← here.invariant.0) (ap (◌+◌ here.count) counted),
      omega (arith, one.1, c.from-count.ensures, here.invariant.1),
    )

pub returns : goal.returns
unfolding multiple_count
returns c = c.loop-i.invariant.0 ∙ ap (sum _) (omega arith)
