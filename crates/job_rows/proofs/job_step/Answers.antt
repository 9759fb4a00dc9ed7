use Rattle.std.proofs.Common.{refl}
use Rattle.job_rows.specs.laws.JobRowLaws.{head_done}
use Rattle.job_rows.proofs.job_step.Goals as goal

pub returns-in-Head : goal.returns-in-Head
returns-in-Head c = let a = c.args in rw (c.in-Head.is, c.head_step.ensures) (head_done a.plan a.area a.task a.facts ((rw c.in-Head.is at c.requires) refl))

pub returns-in-Image : goal.returns-in-Image
returns-in-Image c = rw c.in-Image.is (c.image_step.ensures c.args.facts)

pub returns-in-Window : goal.returns-in-Window
returns-in-Window c = rw c.in-Window.is (c.window_step.ensures c.args.facts)

pub returns-in-Cut : goal.returns-in-Cut
returns-in-Cut c = rw c.in-Cut.is (c.segment_step.ensures c.args.facts)
