use Prim.Native.Nat.{ℕ}
use mathlib.Core.Bool.{not}
use mathlib.Core.List.{List, ◌∷◌, []}
use mathlib.Core.Path.{refl, ap, ◌∙◌}
use lib.ListN.{get_or}
use native.Mathlib.Omega.{arith}
use Rattle.arith.specs.FirstNo.{first_no}
use Rattle.rules.specs.Admission.{is_known, range_questions}
use Rattle.rules.specs.Machine.{is_pending}
use Rattle.state.specs.Fresh.{free_device}
use Rattle.changes.specs.laws.Changes.{begun_change}
use Rattle.manager.specs.laws.ChangeLaws.{kept, job_none, job_asked, job_begun}
use Rattle.manager.proofs.in_place.job_change.Goals as goal

pub begin-requires : goal.begin-requires
begin-requires c =
    let a = c.args in
    let k = c.ask-asked.ensures in
    let x = c.idle_admission-answer in
    let is = x.ensures ∙ ap (λ z. first_no 9 (z.sound ∷ is_known a.plan a.area ∷ not (is_pending z.area.job) ∷ [])) k.value in
    (job_asked a.plan a.areas a.devices a.ages [] a.area a.task x.result is c.in-Ok.is, k.number_bound)

pub returns-in-Err : goal.returns-in-Err
returns-in-Err c =
    let a = c.args in
    let k = c.ask-asked.ensures in
    let x = c.idle_admission-answer in
    let is = x.ensures ∙ ap (λ z. first_no 9 (z.sound ∷ is_known a.plan a.area ∷ not (is_pending z.area.job) ∷ [])) k.value in
    let j : (wear : List ℕ) → _ = λ wear. job_none a.plan a.areas a.devices a.ages wear a.area a.task x.result is _ c.in-Err.is in
    rw c.none.ensures (record { answer_value = (λ wear. (j wear).0); manager_value = (λ wear. kept a.plan a.areas a.devices a.ages wear x.result ∙ (j wear).1); numbers_bound = (omega arith, omega arith) })

pub returns-in-Ok : goal.returns-in-Ok
returns-in-Ok c =
    let a = c.args in
    let k = c.ask-asked.ensures in
    let x = c.idle_admission-answer in
    let is = x.ensures ∙ ap (λ z. first_no 9 (z.sound ∷ is_known a.plan a.area ∷ not (is_pending z.area.job) ∷ [])) k.value in
    let r = c.begin in
    let n = r.ensures.answer_value ∙ ap (λ z. first_no 12 (range_questions a.plan z.number a.task)) k.value in
    let f = r.ensures.value ∙ ap (λ z. begun_change r.result.answer a.plan z (get_or a.devices 0 free_device) a.ages a.task) k.value in
    let j : (wear : List ℕ) → _ = λ wear. job_begun a.plan a.areas a.devices a.ages wear a.area a.task x.result is c.in-Ok.is r.result (get_or a.devices 0 free_device) refl n f in
    record { answer_value = (λ wear. (j wear).0); manager_value = (λ wear. (j wear).1); numbers_bound = (omega (arith, ap (λ z. z.area_number) r.ensures.value, k.number_bound), omega (arith, ap (λ z. z.device_number) r.ensures.value)) }
