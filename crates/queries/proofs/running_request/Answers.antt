use mathlib.Core.Path.{◌∙◌}
use Rattle.queries.specs.laws.QueryLaws.{request_of_lem}
use Rattle.devices.specs.Arrays.{job_in}
use Rattle.queries.proofs.running_request.Goals as goal

pub returns : goal.returns
returns c =
    let a = c.args in
    c.request_on.ensures ∙ request_of_lem a.plan (job_in a.areas a.area) a.devices a.area _ c.segment_at-segment.ensures _ c.state_on.ensures
