use Prim.Native.Nat.{ℕ}
use mathlib.Core.List.{List}
use mathlib.Core.Path.{ap, ◌∙◌}
use Rattle.arith.specs.Parts.{put}
use Rattle.transfer.specs.PartLaws.{part_is}
use Rattle.transfer.proofs.read_part.Goals as goal

pub returns : goal.returns
returns c =
    let a = c.args in
    c.write_part.ensures ∙ ap (λ (w : List ℕ). put a.q w a.store.now) (part_is a.p a.n a.image.now)
