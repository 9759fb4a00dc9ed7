use mathlib.Core.Path.{◌∙◌, sym, ap}
use Prim.Native.Nat.{◌+◌}
use native.Mathlib.Omega.{arith}
use lib.Bits.{bit_and}
use lib.ListN.{get_or}
use Rattle.arith.specs.Listed.{part_listed}
use Rattle.arith.specs.Parts.{put}
use Rattle.transfer.specs.PartLaws.{listed_window}
use Rattle.effects.proofs.Request.write_on.Goals as goal

pub and_part-requires : goal.and_part-requires
and_part-requires c = omega (arith, c.window_part-part.ensures.1)

pub returns-then-self : goal.returns-then-self
returns-then-self c =
    let a = c.args in
    let w = c.window_part-part.ensures in
    rw c.if-self.true
    (c.and_part.ensures ∙ ap (λ x. put a.self.at x a.image.now) (listed_window a.store.now _ a.self.window a.self.n w.0 w.1 (λ i b. bit_and (get_or a.image.now (a.self.at + i) 0) b)))

pub write_part-requires : goal.write_part-requires
write_part-requires c = omega (arith, c.window_part-part.ensures.1)

pub returns-else-self : goal.returns-else-self
returns-else-self c =
    let a = c.args in
    let w = c.window_part-part.ensures in
    rw c.if-self.false
    (c.write_part.ensures ∙ ap (λ x. put a.self.at x a.image.now) (w.0 ∙ sym (part_listed 0 a.self.window a.self.n a.store.now c.requires.1)))
