use Prim.Native.Nat.{min}
use mathlib.Core.Path.{◌≡◌, ap, ◌∙◌}
use native.Mathlib.Omega.{arith}
use Rattle.audits.specs.Audits.{jobs_in}
use Rattle.job_rows.specs.JobRows.{too_large}
use Rattle.rules.specs.statements.JobSets.{jobs_above}
use Rattle.audits.specs.laws.LineLaws.{lines_all}
use Rattle.audits.specs.laws.TableLaws.{above_from, above_pass, above_more, above_end}
use Rattle.audits.proofs.jobs_above.Goals as goal

pub loop-at-init : goal.loop-at-init
loop-at-init c = (omega arith, omega arith)

pub loop-at-smaller-in-None : goal.loop-at-smaller-in-None
loop-at-smaller-in-None c = omega (arith, c.next_job-found.ensures.further, c.loop-at-test.true)

pub loop-at-preserved-in-None : goal.loop-at-preserved-in-None
loop-at-preserved-in-None c = let a = c.args in let l = c.loop-at in (l.invariant.0, omega (arith, l.invariant.1, above_pass a.manager.plan a.a a.input.now l.at a.manager.plan.device_count c.next_job-found.result c.next_job-found.ensures c.in-None.is))

pub loop-at-smaller : goal.loop-at-smaller
loop-at-smaller c = omega (arith, c.next_job-found.ensures.further, c.loop-at-test.true)

pub loop-at-preserved : goal.loop-at-preserved
loop-at-preserved c = let a = c.args in let l = c.loop-at in (omega (arith, c.figure_sum-sum.ensures), omega (arith, l.invariant.1, c.figure_sum-sum.ensures, c.job_above.ensures, above_more a.manager.plan a.a a.input.now l.at a.manager.plan.device_count c.next_job-found.result c.next_job-found.ensures _ c.in-Some.is))

pub returns : goal.returns
returns c = let a = c.args in let l = c.loop-at in let sum : l.sum ≡ min (above_from a.manager.plan a.a a.manager.plan.device_count a.input.now 0) too_large = omega (arith, l.invariant.0, l.invariant.1, above_end a.manager.plan a.a a.manager.plan.device_count a.input.now l.at c.loop-at-test.false) in sum ∙ ap (λ ls. min (jobs_above a.manager.plan a.a (jobs_in a.manager.plan.device_count ls)) too_large) (lines_all a.input.now)
