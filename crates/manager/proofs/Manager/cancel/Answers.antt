use mathlib.Core.List.{◌∷◌, []}
use mathlib.Core.Path.{ap, ◌∙◌}
use native.Mathlib.Omega.{arith}
use Rattle.arith.specs.FirstNo.{first_no}
use Rattle.rules.specs.Admission.{skip, is_known}
use Rattle.rules.specs.Machine.{is_pending}
use Rattle.changes.specs.laws.Changes.{stopped_change}
use Rattle.manager.specs.laws.ChangeLaws.{cancel_none, cancel_asked, cancel_stopped}
use Rattle.manager.proofs.Manager.cancel.Goals as goal

pub stop-change-requires : goal.stop-change-requires
stop-change-requires c =
    let a = c.args in
    let k = c.ask-asked.ensures in
    let x = c.cancel_admission-answer in
    let is = x.ensures ∙ ap (λ z. first_no 9 (z.sound ∷ is_known a.self.plan a.area ∷ skip 6 (is_pending z.area.job ∷ []))) k.value in
    (cancel_asked a.self.plan a.self.areas a.self.devices a.self.ages a.self.wear a.area x.result is c.in-Ok.is, k.number_bound)

pub with-requires : goal.with-requires
with-requires c =
    let r = c.stop-change.ensures in
    (omega (arith, ap (λ z. z.area_number) r, c.ask-asked.ensures.number_bound), omega (arith, ap (λ z. z.device_number) r))

pub returns-in-Err : goal.returns-in-Err
returns-in-Err c =
    let a = c.args in
    let k = c.ask-asked.ensures in
    let x = c.cancel_admission-answer in
    let is = x.ensures ∙ ap (λ z. first_no 9 (z.sound ∷ is_known a.self.plan a.area ∷ skip 6 (is_pending z.area.job ∷ []))) k.value in
    let both = cancel_none a.self.plan a.self.areas a.self.devices a.self.ages a.self.wear a.area x.result is _ c.in-Err.is in
    record { answer_value = both.0; manager_value = both.1 }

pub returns-in-Ok : goal.returns-in-Ok
returns-in-Ok c =
    let a = c.args in
    let k = c.ask-asked.ensures in
    let x = c.cancel_admission-answer in
    let is = x.ensures ∙ ap (λ z. first_no 9 (z.sound ∷ is_known a.self.plan a.area ∷ skip 6 (is_pending z.area.job ∷ []))) k.value in
    let r = c.stop-change in
    let f = r.ensures ∙ ap (λ z. stopped_change a.self.plan z a.self.devices a.self.ages) k.value in
    let j = cancel_stopped a.self.plan a.self.areas a.self.devices a.self.ages a.self.wear a.area x.result is c.in-Ok.is r.result f in
    rw c.with.ensures (record { answer_value = j.0; manager_value = j.1 })
