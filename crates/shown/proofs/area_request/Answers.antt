use Rattle.std.proofs.Common.{◌∙◌, arith}
use Rattle.devices.specs.Arrays.{job_in}
use Rattle.segment.specs.laws.Found.{segment_from_front}
use Rattle.shown.specs.laws.ShownLaws.{request_shown}
use Rattle.texts.specs.laws.PageLaws.{prints_same}
use Rattle.shown.proofs.area_request.Goals as goal

pub returns : goal.returns
returns c =
    let a = c.args in
    let segment = c.segment_from-segment.ensures ∙ segment_from_front a.plan.sub_area_count a.plan.sub_areas (omega arith) _ _ _ _ in
    prints_same
    (request_shown a.plan (job_in a.areas) a.area _ _ _ _ c.job_of-job.ensures c.number.ensures c.start_of.ensures segment)
    (omega arith)
    c.request_text.ensures
