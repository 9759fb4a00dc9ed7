use mathlib.Core.Path.{refl, sym, ap, ◌∙◌}
use native.Mathlib.Omega.{arith}
use lib.ListN.{set}
use Rattle.arith.specs.Tables.{table, table_more}
use Rattle.jobs.specs.AgeLaws.{age_turn}
use Rattle.jobs.proofs.ranks.ages_after.Goals as goal

pub loop-a-init : goal.loop-a-init
unfolding table
loop-a-init c = refl

pub loop-a-preserved : goal.loop-a-preserved
loop-a-preserved c =
    (λ i. set (c.loop-a.invariant i) c.loop-a.a ((c.age_after.ensures ∙ age_turn c.args.ages c.args.area c.loop-a.a (omega arith) (omega arith)) i))
    ∙ sym (table_more 8 _ _ _)

pub returns : goal.returns
returns c = c.loop-a.invariant ∙ ap (table 8 _ 0) (omega arith)
