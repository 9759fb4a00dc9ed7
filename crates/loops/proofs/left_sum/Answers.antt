use Rattle.std.proofs.Common.{◌+◌, get_or, refl, ap, ◌∙◌, arith}
use Rattle.loops.specs.Repeated.{total, total_more, repeated_query}
use Rattle.loops.specs.Rounds.{left_total}
use Rattle.loops.proofs.left_sum.Goals as goal

pub loop-i-init : goal.loop-i-init
unfolding total
loop-i-init c = (refl, omega arith)

pub loop-i-preserved : goal.loop-i-preserved
loop-i-preserved c =
    let here = c.loop-i in (
      rw (total_more, repeated_query, ← here.invariant.0) (ap (λ n. here.sum + (n + get_or c.args.manager.wear here.i 0)) (c.unwrap_or-processed.ensures ∙ c.processed.ensures.processed_value)),
      omega arith,
    )

pub returns : goal.returns
returns c = record { value = c.loop-i.invariant.0 ∙ ap (left_total _) (omega arith); upper_bound = omega arith }
