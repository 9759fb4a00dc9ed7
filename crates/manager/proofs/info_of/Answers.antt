use Rattle.std.proofs.Common.{sym, rules, ◌≡◌, Err, ◌∙◌, ℕ, List, []}
use Rattle.manager.specs.Calls.{manager_of}
use Rattle.manager.specs.laws.CallLaws.{info_number_lem, info_few, info_refused, refused_number, info_accepted}
use Rattle.manager.proofs.info_of.Goals as goal

pub returns-in_err-info_admission : goal.returns-in_err-info_admission
returns-in_err-info_admission c =
    let a = c.args in
    let number : (ages wear : List ℕ) → _ = λ ages wear. info_number_lem (manager_of a.plan a.areas a.devices ages wear) a.area _ c.is_sound.ensures _ c.in_err-info_admission.ensures in
    let is : c.from_residual.result ≡ Err c.in_err-info_admission.field-0.0 = search rules in
    rw is (record {
      answer_value = number;
      info_value = λ ages wear. info_refused (manager_of a.plan a.areas a.devices ages wear) a.area (refused_number _ _ (number ages wear));
    })

pub job_info-requires : goal.job_info-requires
job_info-requires c =
    let a = c.args in
    let m = manager_of a.plan a.areas a.devices [] [] in
    info_few m a.area (sym (info_number_lem m a.area _ c.is_sound.ensures _ c.in_ok-info_admission.ensures))

pub returns : goal.returns
returns c =
    let a = c.args in
    let number : (ages wear : List ℕ) → _ = λ ages wear. info_number_lem (manager_of a.plan a.areas a.devices ages wear) a.area _ c.is_sound.ensures _ c.in_ok-info_admission.ensures in
    record {
      answer_value = number;
      info_value = λ ages wear. c.job_info.ensures ∙ info_accepted (manager_of a.plan a.areas a.devices ages wear) a.area (sym (number ages wear));
    }
