use mathlib.Core.Path.{◌∙◌}
use native.Mathlib.Omega.{arith}
use lib.ListN.{length}
use Rattle.transfer.specs.PartLaws.{length_lent, same_bytes, same_parts}
use Rattle.transfer.proofs.same_part.Goals as goal

pub returns : goal.returns
returns c =
    let a = c.args in
    let long = length_lent a.image.now a.p (length a.window.now) (omega arith) in
    same_bytes _ _ _ long c.eq.ensures ∙ same_parts a.image.now a.p (length a.window.now) (omega arith) a.window.now
