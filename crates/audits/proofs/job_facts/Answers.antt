use Rattle.std.proofs.Common.{sym, ◌≡◌, ◌∙◌, arith, rules}
use Rattle.audits.specs.Audits.{refused_facts}
use Rattle.audits.specs.laws.JobLaws.{facts_refused, facts_accepted}
use Rattle.audits.specs.laws.LoadLaws.{audited}
use Rattle.audits.proofs.job_facts.Goals as goal

pub returns-then-number-gt0 : goal.returns-then-number-gt0
returns-then-number-gt0 c =
    let a = c.args in
    let none : c.default.result ≡ refused_facts 0 = search rules in
    λ js s. rw none (facts_refused a.manager c.requires a.area a.task c.number_of-number.result c.number_of-number.ensures js c.if-number-gt0.true)

pub job_bounds-requires : goal.job_bounds-requires
job_bounds-requires c = let a = c.args in audited a.manager c.requires a.area a.task (sym c.number_of-number.ensures ∙ omega arith)

pub returns : goal.returns
returns c =
    let a = c.args in
    let number = c.number_of-number in
    let j = audited a.manager c.requires a.area a.task (sym number.ensures ∙ omega arith) in
    λ js s. facts_accepted a.manager c.requires a.area a.task number.result number.ensures js a.table s (omega (arith, j.job.known, j.plan.area_most)) c.if-number-gt0.false c.job_bounds.result c.job_bounds.ensures
