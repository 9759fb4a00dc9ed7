use mathlib.Core.Bool.{not}
use mathlib.Core.List.{◌∷◌, []}
use mathlib.Core.Path.{refl, ap, ◌∙◌}
use lib.ListN.{get_or}
use native.Mathlib.Omega.{arith}
use Rattle.arith.specs.FirstNo.{first_no}
use Rattle.memory.specs.declared.Task.{Task}
use Rattle.rules.specs.Admission.{is_known, range_questions}
use Rattle.rules.specs.Machine.{is_pending}
use Rattle.state.specs.Fresh.{free_device}
use Rattle.changes.specs.laws.Changes.{begun_change}
use Rattle.manager.specs.laws.ChangeLaws.{job_none, job_asked, job_begun}
use Rattle.manager.proofs.Manager.submit.Goals as goal

pub begin-change-requires : goal.begin-change-requires
begin-change-requires c =
    let a = c.args in
    let task : Task = record { kind = a.kind; address = a.address; length = a.length } in
    let k = c.ask-asked.ensures in
    let x = c.idle_admission-answer in
    let is = x.ensures ∙ ap (λ z. first_no 9 (z.sound ∷ is_known a.self.plan a.area ∷ not (is_pending z.area.job) ∷ [])) k.value in
    (job_asked a.self.plan a.self.areas a.self.devices a.self.ages a.self.wear a.area task x.result is c.in-Ok.is, k.number_bound)

pub with-requires : goal.with-requires
with-requires c =
    let r = c.begin-change.ensures.value in
    (omega (arith, ap (λ z. z.area_number) r, c.ask-asked.ensures.number_bound), omega (arith, ap (λ z. z.device_number) r))

pub returns-in-Err : goal.returns-in-Err
returns-in-Err c =
    let a = c.args in
    let task : Task = record { kind = a.kind; address = a.address; length = a.length } in
    let k = c.ask-asked.ensures in
    let x = c.idle_admission-answer in
    let is = x.ensures ∙ ap (λ z. first_no 9 (z.sound ∷ is_known a.self.plan a.area ∷ not (is_pending z.area.job) ∷ [])) k.value in
    let both = job_none a.self.plan a.self.areas a.self.devices a.self.ages a.self.wear a.area task x.result is _ c.in-Err.is in
    record { answer_value = both.0; manager_value = both.1 }

pub returns-in-Ok : goal.returns-in-Ok
returns-in-Ok c =
    let a = c.args in
    let task : Task = record { kind = a.kind; address = a.address; length = a.length } in
    let k = c.ask-asked.ensures in
    let x = c.idle_admission-answer in
    let is = x.ensures ∙ ap (λ z. first_no 9 (z.sound ∷ is_known a.self.plan a.area ∷ not (is_pending z.area.job) ∷ [])) k.value in
    let r = c.begin-change in
    let n = r.ensures.answer_value ∙ ap (λ z. first_no 12 (range_questions a.self.plan z.number task)) k.value in
    let f = r.ensures.value ∙ ap (λ z. begun_change r.result.answer a.self.plan z (get_or a.self.devices 0 free_device) a.self.ages task) k.value in
    let j = job_begun a.self.plan a.self.areas a.self.devices a.self.ages a.self.wear a.area task x.result is c.in-Ok.is r.result (get_or a.self.devices 0 free_device) refl n f in
    rw c.with.ensures (record { answer_value = j.0; manager_value = j.1 })
