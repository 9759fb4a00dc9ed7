use Rattle.figures.specs.laws.BoundLaws.{device_few}
use Rattle.segment.specs.laws.CutLaws.{at_start}
use Rattle.job_rows.proofs.lock_step.Goals as goal

pub stretch_row-requires : goal.stretch_row-requires
stretch_row-requires c =
    let a = c.args in
    device_few a.plan a.area a.task c.requires.0 0 at_start c.requires.0.job.length_some c.segment_at-first.result c.segment_at-first.ensures
