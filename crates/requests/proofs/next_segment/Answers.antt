use Rattle.std.proofs.Common.{◌+◌, ◌∙◌, arith}
use Rattle.std.proofs.lemmas.Bool.{lt-leb}
use Rattle.segment.specs.laws.Found.{segment_from_front}
use Rattle.requests.proofs.next_segment.Goals as goal

pub returns-else-job-upto : goal.returns-else-job-upto
returns-else-job-upto c =
    let a = c.args in
    rw (c.in-Done.is, lt-leb _ _ c.if-job-upto.false)
    (c.segment_from.ensures ∙ segment_from_front a.count a.sub_areas (omega arith) a.start.0 a.area a.job.task (a.job.processed + a.due.length))
