use mathlib.Core.Path.{◌∙◌}
use Prim.Native.Nat.{◌+◌}
use lib.Dec.{eqb}
use lib.ListN.{get_or}
use native.Mathlib.Omega.{arith}
use Rattle.transfer.specs.PartLaws.{every_window}
use Rattle.effects.proofs.Request.compare_on.Goals as goal

pub same_part-requires : goal.same_part-requires
same_part-requires c = omega (arith, c.window_part-part.ensures.1)

pub returns : goal.returns
returns c =
    let a = c.args in
    let w = c.window_part-part.ensures in
    c.same_part.ensures ∙ every_window a.store.now _ a.self.window a.self.n w.0 w.1 (λ i b. eqb (get_or a.image.now (a.self.at + i) 0) b)
