use Rattle.std.proofs.Common.{sym, arith}
use Rattle.texts.specs.laws.DecimalLaws.{decimal_one, decimal_more, count_one, count_more_digits}
use Rattle.texts.specs.laws.PageLaws.{prints_more, prints_same}
use Rattle.texts.proofs.page.Page.+digits.Goals as goal

pub push-requires : goal.push-requires
push-requires t c = omega (arith, count_one c.args.n c.if-n-lt10.true)

pub digits-requires : goal.digits-requires
digits-requires t c = (omega (arith, c.decreases), omega (arith, count_more_digits c.args.n c.if-n-lt10.false c.ranges.n.fits))

pub push-requires-else-n-lt10 : goal.push-requires-else-n-lt10
push-requires-else-n-lt10 t c =
    let a = c.digits.ensures.appended in
    omega (arith, count_more_digits c.args.n c.if-n-lt10.false c.ranges.n.fits, a.ends, a.long)

pub returns-then-n-lt10 : goal.returns-then-n-lt10
returns-then-n-lt10 t c =
    prints_same (sym (decimal_one c.args.n c.if-n-lt10.true)) (omega (arith, count_one c.args.n c.if-n-lt10.true)) c.push.ensures

pub returns-else-n-lt10 : goal.returns-else-n-lt10
returns-else-n-lt10 t c =
    prints_same
    (sym (decimal_more c.args.n c.if-n-lt10.false c.ranges.n.fits))
    (omega (arith, count_more_digits c.args.n c.if-n-lt10.false c.ranges.n.fits))
    (prints_more c.digits.ensures c.push-else-n-lt10.ensures)
