use Rattle.std.proofs.Common.{refl, sym, ◌∙◌, arith, true, false}
use Rattle.picks.specs.laws.Picks.{best_to, ready_in, best_turn}
use Rattle.picks.proofs.best_area.Goals.{then-is_ready, else-is_ready}
use Rattle.picks.proofs.best_area.Goals as goal

pub loop-a-init : goal.loop-a-init
unfolding best_to
loop-a-init c = refl

pub loop-a-preserved : goal.loop-a-preserved
loop-a-preserved c =
    elim c.if-is_ready.branch [
      | then-is_ready w ↦
          best_turn c.args.records c.args.ages (ready_in c.args.needs c.args.areas c.args.device) c.loop-a.a (omega arith) true c.loop-a.best _
          c.loop-a.invariant (sym w.if-is_ready.true ∙ c.is_ready.ensures) (w.best-is ∙ w.better-best.ensures)
      | else-is_ready w ↦
          best_turn c.args.records c.args.ages (ready_in c.args.needs c.args.areas c.args.device) c.loop-a.a (omega arith) false c.loop-a.best _
          c.loop-a.invariant (sym w.if-is_ready.false ∙ c.is_ready.ensures) w.best-is
    ]
