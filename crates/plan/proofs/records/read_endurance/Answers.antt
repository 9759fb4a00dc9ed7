use Rattle.std.proofs.Common.{refl}
use Rattle.arith.specs.Tables.{table}
use Rattle.plan.specs.Records.{endurance_by}
use Rattle.plan.proofs.laws.WearLaws.{endurance_set, endurance_past}
use Rattle.plan.proofs.records.read_endurance.Goals as goal
use Rattle.plan.proofs.records.read_endurance.Goals.{then-sub_area-lt32, else-sub_area-lt32}

pub loop-i-init : goal.loop-i-init
unfolding endurance_by table
loop-i-init c = refl

pub loop-i-preserved : goal.loop-i-preserved
loop-i-preserved c =
    let r = c.read-wear.ensures in
    let was = c.loop-i.invariant in
    elim c.if-sub_area-lt32.branch [
      | then-sub_area-lt32 w ↦ endurance_set _ _ _ r _ _ was w.endurance-is
      | else-sub_area-lt32 w ↦ endurance_past _ _ _ r _ _ was w.if-sub_area-lt32.false w.endurance-is
    ]
