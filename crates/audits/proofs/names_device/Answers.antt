use mathlib.Core.Path.{sym, ◌∙◌}
use native.Mathlib.Omega.{arith}
use Rattle.audits.specs.laws.JobLaws.{locks_refused, locks_device}
use Rattle.audits.specs.laws.LoadLaws.{audited}
use Rattle.audits.proofs.names_device.Goals as goal

pub returns-then-number_of-gt0 : goal.returns-then-number_of-gt0
returns-then-number_of-gt0 c = let a = c.args in locks_refused a.manager c.requires.0 a.area a.task c.number_of.result c.number_of.ensures a.a c.requires.1 c.if-number_of-gt0.true

pub segment_at-first-requires : goal.segment_at-first-requires
segment_at-first-requires c = let a = c.args in let j = audited a.manager c.requires.0 a.area a.task (sym c.number_of.ensures ∙ omega arith) in (j.plan.sub_area_most, omega (arith, j.job.known, j.plan.area_most))

pub returns : goal.returns
returns c = let a = c.args in locks_device a.manager c.requires.0 a.area a.task c.number_of.result c.number_of.ensures a.a _ c.requires.1 c.if-number_of-gt0.false (rw c.segment_at-first.ensures at c.is_on.ensures)
