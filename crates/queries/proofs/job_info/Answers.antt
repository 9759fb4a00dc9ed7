use Rattle.rules.specs.Queries.{job_info_of}
use Rattle.queries.proofs.job_info.Goals as goal

pub returns : goal.returns
unfolding job_info_of
returns c = rw c.request_info.ensures
