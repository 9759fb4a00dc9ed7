use mathlib.Core.Path.{refl, sym, ap, ◌∙◌}
use native.Mathlib.Omega.{arith}
use mathlib.Core.Bool.{◌||◌}
use Rattle.audits.specs.Audits.{jobs_in}
use Rattle.rules.specs.statements.JobSets.{any_locks}
use Rattle.audits.specs.laws.LineLaws.{lines_all}
use Rattle.audits.specs.laws.TableLaws.{locks_from, locks_pass, locks_more, locks_end}
use Rattle.audits.proofs.any_locks.Goals as goal

pub loop-at-init : goal.loop-at-init
loop-at-init c = refl

pub loop-at-smaller-in-None : goal.loop-at-smaller-in-None
loop-at-smaller-in-None c = omega (arith, c.next_job-found.ensures.further, c.loop-at-test.true)

pub loop-at-preserved-in-None : goal.loop-at-preserved-in-None
loop-at-preserved-in-None c = let a = c.args in let l = c.loop-at in sym (locks_pass a.manager.plan a.a a.input.now l.at a.manager.plan.device_count c.next_job-found.result c.next_job-found.ensures c.in-None.is) ∙ l.invariant

pub returns-then-job_locks : goal.returns-then-job_locks
returns-then-job_locks c = let a = c.args in let l = c.loop-at in let more = locks_more a.manager.plan a.a a.input.now l.at a.manager.plan.device_count c.next_job-found.result c.next_job-found.ensures _ c.in-Some.is in ap (λ x. x) (sym (ap (λ x. x || locks_from a.manager.plan a.a a.manager.plan.device_count a.input.now c.next_job-found.result.next) (sym c.job_locks.ensures ∙ c.if-job_locks.true))) ∙ sym more ∙ l.invariant ∙ ap (λ ls. any_locks a.manager.plan a.a (jobs_in a.manager.plan.device_count ls)) (lines_all a.input.now)

pub loop-at-smaller : goal.loop-at-smaller
loop-at-smaller c = omega (arith, c.next_job-found.ensures.further, c.loop-at-test.true)

pub loop-at-preserved : goal.loop-at-preserved
loop-at-preserved c = let a = c.args in let l = c.loop-at in let more = locks_more a.manager.plan a.a a.input.now l.at a.manager.plan.device_count c.next_job-found.result c.next_job-found.ensures _ c.in-Some.is in ap (λ x. x || locks_from a.manager.plan a.a a.manager.plan.device_count a.input.now c.next_job-found.result.next) (sym c.if-job_locks.false ∙ c.job_locks.ensures) ∙ sym more ∙ l.invariant

pub returns : goal.returns
returns c = let a = c.args in let l = c.loop-at in sym (locks_end a.manager.plan a.a a.manager.plan.device_count a.input.now l.at c.loop-at-test.false) ∙ l.invariant ∙ ap (λ ls. any_locks a.manager.plan a.a (jobs_in a.manager.plan.device_count ls)) (lines_all a.input.now)
