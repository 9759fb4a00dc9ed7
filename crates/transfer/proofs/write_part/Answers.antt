use mathlib.Core.Path.{refl}
use lib.ListN.{length}
use Rattle.transfer.specs.PartLaws.{put_is}
use Rattle.transfer.proofs.write_part.Goals as goal

pub returns : goal.returns
returns c =
    let a = c.args in
    rw c.copy_all.ensures (put_is a.p (length a.src.now) a.src.now a.dst.now refl)
