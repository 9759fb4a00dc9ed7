use Rattle.rules.specs.Admission.{range_device}
use Rattle.admission.proofs.range_device.Goals as goal

pub returns : goal.returns
unfolding range_device
returns c = rw (c.segment_at.ensures, c.lock_task.ensures)
