use Rattle.manager.specs.Load.{fresh_manager}
use Rattle.manager.proofs.Manager.fresh.Goals as goal

pub returns : goal.returns
unfolding fresh_manager
returns c = rw (c.fresh.ensures, c.free.ensures)
