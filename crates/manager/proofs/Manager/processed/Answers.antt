use Rattle.std.proofs.Common.{sym, rules, ◌≡◌, Err}
use Rattle.manager.specs.laws.CallLaws.{info_few, processed_refused, refused_number, processed_accepted}
use Rattle.manager.proofs.Manager.processed.Goals as goal

pub returns-in_err-query_admission : goal.returns-in_err-query_admission
returns-in_err-query_admission c =
    let number = c.in_err-query_admission.ensures in
    let is : c.from_residual.result ≡ Err c.in_err-query_admission.field-0.0 = search rules in
    rw is (record { answer_value = number; processed_value = processed_refused c.args.self c.args.area (refused_number _ _ number) })

pub job_of-requires : goal.job_of-requires
job_of-requires c = (info_few c.args.self c.args.area (sym c.in_ok-query_admission.ensures)).1

pub returns : goal.returns
returns c =
    let accepted = sym c.in_ok-query_admission.ensures in
    record { answer_value = c.in_ok-query_admission.ensures; processed_value = processed_accepted c.args.self c.args.area accepted _ c.job_of.ensures }
