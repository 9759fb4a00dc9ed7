use Rattle.std.proofs.Common.{◌≡◌, ◌≤◌, true, ◌∙◌, sym, arith, rules}
use Rattle.figures.specs.Ranges.{adjoins}
use Rattle.figures.specs.laws.BoundLaws.{segment_some, segment_fits_lem, next_cut_lem, inside_image}
use Rattle.figures.specs.laws.RangeLaws.{adjoins_end, range_first, range_more, range_ends, range_last}
use Rattle.figures.proofs.next_range.Goals as goal

pub behind-next-requires : goal.behind-next-requires
behind-next-requires c =
    let a = c.args in
    let few : a.task.length ≤ 4294967295 = search rules in
    omega (arith, segment_fits_lem a.plan a.area a.task c.requires.0 a.x c.requires.1 c.requires.2 c.segment_at-first.result c.segment_at-first.ensures)

pub loop-next-init : goal.loop-next-init
loop-next-init c =
    let a = c.args in
    let s = c.segment_at-first.result in
    let is = c.segment_at-first.ensures in
    let p = c.requires in
    let some = segment_some a.plan a.area a.task p.0 a.x p.1 p.2 s is in
    record {
      further = omega (arith, c.behind-next.ensures);
      within = omega (arith, c.behind-next.ensures, segment_fits_lem a.plan a.area a.task p.0 a.x p.1 p.2 s is);
      cut = rw c.behind-next.ensures (next_cut_lem a.plan a.area a.task p.0 a.x p.1 p.2 s is);
      ranges = rw c.behind-next.ensures (range_first a.plan a.area a.task p.0 a.x p.1 p.2 s is);
      some = some;
      inside = inside_image a.plan a.area a.task p.0 a.x p.1 p.2 s is;
      few = search rules;
    }

pub returns-then-not-adjoins-clause-x_value : goal.returns-then-not-adjoins-clause-x_value
returns-then-not-adjoins-clause-x_value c =
    let a = c.args in
    let l = c.loop-next in
    l.invariant.ranges
    ∙ range_ends a.plan a.area a.task c.requires.0 l.next l.invariant.cut c.loop-next-test.true c.segment_at-segment.result c.segment_at-segment.ensures l.range
    (sym c.adjoins.ensures ∙ c.if-not-adjoins.true)

pub overflow_add-range : goal.overflow_add-range
overflow_add-range c =
    let a = c.args in
    let l = c.loop-next in
    omega (arith, l.invariant.inside, inside_image a.plan a.area a.task c.requires.0 l.next l.invariant.cut c.loop-next-test.true c.segment_at-segment.result c.segment_at-segment.ensures)

pub behind-next-requires-in-loop-next : goal.behind-next-requires-in-loop-next
behind-next-requires-in-loop-next c =
    let a = c.args in
    let l = c.loop-next in
    let few = l.invariant.few in
    omega (arith, segment_fits_lem a.plan a.area a.task c.requires.0 l.next l.invariant.cut c.loop-next-test.true c.segment_at-segment.result c.segment_at-segment.ensures)

pub loop-next-smaller : goal.loop-next-smaller
loop-next-smaller c =
    let a = c.args in
    let l = c.loop-next in
    omega (arith, c.behind-next-in-loop-next.ensures, c.loop-next-test.true, segment_some a.plan a.area a.task c.requires.0 l.next l.invariant.cut c.loop-next-test.true c.segment_at-segment.result c.segment_at-segment.ensures)

pub loop-next-preserved : goal.loop-next-preserved
loop-next-preserved c =
    let a = c.args in
    let l = c.loop-next in
    let i = l.invariant in
    let f = c.requires.0 in
    let s = c.segment_at-segment.result in
    let is = c.segment_at-segment.ensures in
    let taken = c.loop-next-test.true in
    let next = c.behind-next-in-loop-next.ensures in
    let adjoins : adjoins l.range s ≡ true = sym c.adjoins.ensures ∙ c.if-not-adjoins.false in
    let ends = adjoins_end l.range s adjoins in
    record {
      further = omega (arith, next, i.further);
      within = omega (arith, next, segment_fits_lem a.plan a.area a.task f l.next i.cut taken s is);
      cut = rw next (next_cut_lem a.plan a.area a.task f l.next i.cut taken s is);
      ranges = rw next (i.ranges ∙ range_more a.plan a.area a.task f l.next i.cut taken s is l.range adjoins);
      some = omega (arith, i.some);
      inside = omega (arith, ends, inside_image a.plan a.area a.task f l.next i.cut taken s is);
      few = i.few;
    }

pub returns-clause-x_value : goal.returns-clause-x_value
returns-clause-x_value c =
    let a = c.args in
    let l = c.loop-next in
    l.invariant.ranges ∙ range_last a.plan a.area a.task l.next _ c.loop-next-test.false
