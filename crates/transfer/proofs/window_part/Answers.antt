use native.Mathlib.Omega.{arith}
use Rattle.transfer.specs.PartLaws.{part_is, length_lent}
use Rattle.transfer.proofs.window_part.Goals as goal

pub returns : goal.returns
returns c =
    let a = c.args in
    (part_is a.from a.n a.store.now, length_lent a.store.now a.from a.n (omega arith))
