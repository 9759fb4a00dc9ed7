use Rattle.std.proofs.Common.{ap, ◌∙◌, arith, le-leb}
use Rattle.segment.specs.Mapping.{located}
use Rattle.segment.specs.laws.LookupLaws.{located_front}
use Rattle.admission.proofs.last_byte.Goals as goal

pub returns : goal.returns
returns c =
    let a = c.args in
    rw (le-leb 1 a.n c.if-n-lt1.false, le-leb a.start.0 a.address.0 c.if-address-start.false)
    (c.locate.ensures ∙ located_front a.count a.sub_areas.now (omega arith) _ _ _ ∙ ap (located a.sub_areas.now a.count a.start.0 a.area) (omega (arith, c.if-n-lt1.false)))
