use Rattle.interface.specs.Queries.{query_view}
use Rattle.interface.proofs.query_views.QueryView.of.Goals as goal

pub returns : goal.returns
unfolding query_view
returns c = rw (c.of-6.ensures, c.of-5.ensures, c.of-4.ensures, c.of-3.ensures, c.of-2.ensures, c.of.ensures)
