use Rattle.std.proofs.Common.{sym, ◌∙◌, arith}
use Rattle.audits.specs.laws.JobLaws.{above_refused, above_under, above_own}
use Rattle.audits.specs.laws.LoadLaws.{audited}
use Rattle.audits.proofs.job_above.Goals as goal

pub returns-then-number_of-gt0 : goal.returns-then-number_of-gt0
returns-then-number_of-gt0 c = let a = c.args in above_refused a.manager c.requires.0 a.area a.task c.number_of.result c.number_of.ensures a.a c.if-number_of-gt0.true

pub may_rank_above-requires : goal.may_rank_above-requires
may_rank_above-requires c =
    let a = c.args in
    let j = audited a.manager c.requires.0 a.area a.task (sym c.number_of.ensures ∙ omega arith) in
    (c.requires.1, omega (arith, j.job.known, j.plan.area_most))

pub returns-then-not-may_rank_above : goal.returns-then-not-may_rank_above
returns-then-not-may_rank_above c =
    let a = c.args in
    above_under a.manager c.requires.0 a.area a.task c.number_of.result c.number_of.ensures a.a (sym c.may_rank_above.ensures ∙ c.if-not-may_rank_above.true)

pub job_bounds-requires : goal.job_bounds-requires
job_bounds-requires c = let a = c.args in audited a.manager c.requires.0 a.area a.task (sym c.number_of.ensures ∙ omega arith)

pub returns : goal.returns
returns c =
    let a = c.args in
    let above = sym c.may_rank_above.ensures ∙ c.if-not-may_rank_above.false in
    above_own a.manager c.requires.0 a.area a.task c.number_of.result c.number_of.ensures a.a c.job_bounds.result c.if-number_of-gt0.false above c.job_bounds.ensures
