use Prim.Native.Nat.{◌+◌}
use mathlib.Core.Path.{◌∙◌}
use lib.Bits.{bit_and}
use lib.ListN.{length, get_or}
use Rattle.arith.specs.Listed.{listed, length_listed}
use Rattle.transfer.specs.PartLaws.{anded, anded_part, part_is, put_is}
use Rattle.transfer.proofs.and_part.Goals as goal

pub returns : goal.returns
returns c =
    let a = c.args in
    let n = length a.src.now in
    let is =
    c.and_all.ensures
    ∙ (λ i. anded (part_is a.p n a.dst.now i) a.src.now)
    ∙ anded_part a.dst.now a.src.now a.p c.requires in
    rw is (put_is a.p n (listed (λ i. bit_and (get_or a.dst.now (a.p + i) 0) (get_or a.src.now i 0)) 0 n) a.dst.now (length_listed _ 0 n))
