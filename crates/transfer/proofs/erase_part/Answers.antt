use Prim.Native.Nat.{ℕ}
use mathlib.Core.Path.{◌∙◌, ap}
use borrow.Author.Rules.{rules}
use lib.ListN.{length, replicate, length-replicate}
use Rattle.arith.specs.Parts.{length_part}
use Rattle.transfer.specs.PartLaws.{part_is, put_is}
use Rattle.transfer.proofs.erase_part.Goals as goal

pub returns : goal.returns
returns c =
    let a = c.args in
    let e = ap length (part_is a.p a.n a.image.now) ∙ length_part a.p a.n a.image.now c.requires in
    rw (c.fill.ensures.after (λ y h. search rules) ∙ ap (λ (k : ℕ). replicate k 255) e)
    (put_is a.p a.n (replicate a.n 255) a.image.now (length-replicate _ _))
