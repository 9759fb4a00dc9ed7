use Rattle.std.proofs.Common.{sym, rules, ◌≡◌, Err, ◌∙◌}
use Rattle.manager.specs.laws.CallLaws.{memory_few, wear_refused, refused_number, wear_accepted}
use Rattle.manager.proofs.Manager.wear_info.Goals as goal

pub returns-in_err-address_admission : goal.returns-in_err-address_admission
returns-in_err-address_admission c =
    let number = c.in_err-address_admission.ensures in
    let is : c.from_residual.result ≡ Err c.in_err-address_admission.field-0.0 = search rules in
    rw is (record { answer_value = number; info_value = wear_refused c.args.self c.args.area c.args.address (refused_number _ _ number) })

pub wear_info-requires : goal.wear_info-requires
wear_info-requires c = memory_few c.args.self c.args.area c.args.address (sym c.in_ok-address_admission.ensures)

pub returns : goal.returns
returns c =
    let number = c.in_ok-address_admission.ensures in
    record { answer_value = number; info_value = c.wear_info.ensures ∙ wear_accepted c.args.self c.args.area c.args.address (sym number) }
