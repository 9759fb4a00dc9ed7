use Rattle.std.proofs.Common.{◌%◌, arith}
use Rattle.std.proofs.lemmas.List.{get_or-replicate}
use Rattle.loops.proofs.grown.GrownOwner.rest.Goals as goal

pub returns : goal.returns
returns c = rw c.args.self.now.nothing (get_or-replicate 768 (c.args.times % 768) 0 0 (omega arith))
