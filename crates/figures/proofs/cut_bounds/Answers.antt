use Rattle.std.proofs.Common.{◌≡◌, arith, refl, sym, ◌∙◌, rules}
use Rattle.figures.specs.Figures.{device_or_none}
use Rattle.figures.specs.laws.BoundLaws.{no_bounds, all_bounds, same_last, more_few, device_few, segment_some, segment_fits_lem, next_cut_lem, bounds_turn, bounds_end}
use Rattle.segment.specs.laws.CutLaws.{at_start}
use Rattle.figures.proofs.cut_bounds.Goals as goal

pub loop-x-init : goal.loop-x-init
loop-x-init c =
    let none : c.default-bounds.result ≡ no_bounds = search rules in
    rw none (record {
      within = omega arith;
      cut = at_start;
      bounds = unfold all_bounds in refl;
      own = omega arith;
      below = omega arith;
      segments = omega arith;
      spans = omega arith;
      few = search rules;
    })

pub record_of-record-requires : goal.record_of-record-requires
record_of-record-requires c =
    let a = c.args in
    let l = c.loop-x in
    device_few a.plan a.area a.task c.requires l.x l.invariant.cut c.loop-x-test.true c.segment_at-segment.result c.segment_at-segment.ensures

pub behind-x-requires : goal.behind-x-requires
behind-x-requires c =
    let a = c.args in
    let l = c.loop-x in
    let few = l.invariant.few in
    omega (arith, segment_fits_lem a.plan a.area a.task c.requires l.x l.invariant.cut c.loop-x-test.true c.segment_at-segment.result c.segment_at-segment.ensures)

pub loop-x-smaller : goal.loop-x-smaller
loop-x-smaller c =
    let a = c.args in
    let l = c.loop-x in
    omega (arith, c.behind-x.ensures, c.loop-x-test.true, segment_some a.plan a.area a.task c.requires l.x l.invariant.cut c.loop-x-test.true c.segment_at-segment.result c.segment_at-segment.ensures)

pub loop-x-preserved : goal.loop-x-preserved
loop-x-preserved c =
    let a = c.args in
    let l = c.loop-x in
    let i = l.invariant in
    let s = c.segment_at-segment.result in
    let is = c.segment_at-segment.ensures in
    let taken = c.loop-x-test.true in
    let same = c.eq-same.ensures ∙ same_last l.last s.device (device_few a.plan a.area a.task c.requires l.x i.cut taken s is) in
    let some = segment_some a.plan a.area a.task c.requires l.x i.cut taken s is in
    let fits = segment_fits_lem a.plan a.area a.task c.requires l.x i.cut taken s is in
    let few = more_few c.eq-same.result c.try_rounds-rounds.result c.span_most-most.result l.bounds c.more-bounds.result c.more-bounds.ensures in
    let rounds = rw c.record_of-record.ensures at c.try_rounds-rounds.ensures.0 in
    let most = rw c.record_of-record.ensures at c.span_most-most.ensures.0 in
    let turn = bounds_turn a.plan a.area a.task c.requires l.x i.cut taken s is (device_or_none l.last) l.bounds c.more-bounds.result _ _ rounds most (rw same at c.more-bounds.ensures) in
    record {
      within = omega (arith, c.behind-x.ensures);
      cut = rw c.behind-x.ensures (next_cut_lem a.plan a.area a.task c.requires l.x i.cut taken s is);
      bounds = rw c.behind-x.ensures (sym turn ∙ i.bounds);
      own = omega (arith, c.behind-x.ensures, few.0, c.try_rounds-rounds.ensures.1, i.own);
      below = omega (arith, c.behind-x.ensures, few.1, c.span_most-most.ensures.1, i.below);
      segments = omega (arith, c.behind-x.ensures, few.2, i.segments);
      spans = omega (arith, c.behind-x.ensures, few.3, i.spans);
      few = i.few;
    }

pub returns : goal.returns
returns c = let a = c.args in let l = c.loop-x in sym (bounds_end a.plan a.area a.task l.x (device_or_none l.last) l.bounds c.loop-x-test.false) ∙ l.invariant.bounds
