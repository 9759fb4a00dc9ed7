use Rattle.std.proofs.Common.{refl, arith}
use Rattle.texts.specs.laws.PageLaws.{prints_same}
use Rattle.texts.specs.laws.TextLaws.{count_few, decimal_count}
use Rattle.texts.proofs.page.Page.number.Goals as goal

pub digits-requires : goal.digits-requires
digits-requires c = omega (arith, decimal_count c.args.n, count_few c.args.n)

pub returns : goal.returns
returns c = prints_same refl (omega (arith, decimal_count c.args.n, count_few c.args.n)) c.digits.ensures
