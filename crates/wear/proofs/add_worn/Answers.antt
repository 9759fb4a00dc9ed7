use mathlib.Core.Path.{refl, ap, ◌∙◌}
use native.Mathlib.Omega.{arith}
use Rattle.wear.specs.Wear.{add_worn}
use Rattle.wear.proofs.laws.WearLaws.{add_set, add_left, add_more}
use Rattle.wear.proofs.add_worn.Goals as goal
use Rattle.wear.proofs.add_worn.Goals.{then-place-lt32, else-place-lt32}

pub loop-one-init : goal.loop-one-init
unfolding add_worn
loop-one-init c = refl

pub loop-one-preserved : goal.loop-one-preserved
loop-one-preserved c =
    let l = c.loop-one in
    (elim c.if-place-lt32.branch [
      | then-place-lt32 w ↦ add_set _ _ _ _ l.invariant w.if-place-lt32.true _ w.worn_to.ensures w.wear-is
      | else-place-lt32 w ↦ add_left _ _ _ _ l.invariant w.if-place-lt32.false w.wear-is
    ])
    ∙ add_more _ _ _

pub returns : goal.returns
returns c = c.loop-one.invariant ∙ ap (λ n. add_worn c.args.worn n c.args.wear.now) (omega arith)
