use Rattle.std.proofs.Common.{◌∙◌, arith}
use Rattle.segment.specs.laws.LookupLaws.{find_other, find_here, find_behind, find_end}
use Rattle.segment.proofs.lookup.Goals as goal

pub loop-i-preserved-then-sub_area-area : goal.loop-i-preserved-then-sub_area-area
loop-i-preserved-then-sub_area-area c = find_other _ _ c.loop-i-test.true _ _ _ c.if-sub_area-area.true ∙ c.loop-i.invariant

pub returns-then-left-size : goal.returns-then-left-size
returns-then-left-size c =
    find_here _ _ c.loop-i-test.true _ _ _ c.if-sub_area-area.false (omega (arith, c.if-left-size.true, c.size-size.ensures.0)) ∙ c.loop-i.invariant

pub loop-i-preserved : goal.loop-i-preserved
loop-i-preserved c =
    rw c.size-size.ensures.0 (find_behind _ _ c.loop-i-test.true _ _ _ c.if-sub_area-area.false (omega (arith, c.if-left-size.false, c.size-size.ensures.0)) ∙ c.loop-i.invariant)

pub returns : goal.returns
returns c = find_end _ _ c.loop-i-test.false _ _ _ ∙ c.loop-i.invariant
