use Prim.Native.Nat.{ℕ}
use mathlib.Core.List.{List, ◌∷◌, []}
use mathlib.Core.Path.{ap, ◌∙◌}
use native.Mathlib.Omega.{arith}
use Rattle.arith.specs.FirstNo.{first_no}
use Rattle.rules.specs.Admission.{skip, is_known}
use Rattle.rules.specs.Machine.{is_pending}
use Rattle.changes.specs.laws.Changes.{stopped_change}
use Rattle.manager.specs.laws.ChangeLaws.{kept, cancel_none, cancel_asked, cancel_stopped}
use Rattle.manager.proofs.in_place.cancel_change.Goals as goal

pub stop-requires : goal.stop-requires
stop-requires c =
    let a = c.args in
    let k = c.ask-asked.ensures in
    let x = c.cancel_admission-answer in
    let is = x.ensures ∙ ap (λ z. first_no 9 (z.sound ∷ is_known a.plan a.area ∷ skip 6 (is_pending z.area.job ∷ []))) k.value in
    (cancel_asked a.plan a.areas a.devices a.ages [] a.area x.result is c.in-Ok.is, k.number_bound)

pub returns-in-Err : goal.returns-in-Err
returns-in-Err c =
    let a = c.args in
    let k = c.ask-asked.ensures in
    let x = c.cancel_admission-answer in
    let is = x.ensures ∙ ap (λ z. first_no 9 (z.sound ∷ is_known a.plan a.area ∷ skip 6 (is_pending z.area.job ∷ []))) k.value in
    let j : (wear : List ℕ) → _ = λ wear. cancel_none a.plan a.areas a.devices a.ages wear a.area x.result is _ c.in-Err.is in
    rw c.none.ensures (record { answer_value = (λ wear. (j wear).0); manager_value = (λ wear. kept a.plan a.areas a.devices a.ages wear x.result ∙ (j wear).1); numbers_bound = (omega arith, omega arith) })

pub returns-in-Ok : goal.returns-in-Ok
returns-in-Ok c =
    let a = c.args in
    let k = c.ask-asked.ensures in
    let x = c.cancel_admission-answer in
    let is = x.ensures ∙ ap (λ z. first_no 9 (z.sound ∷ is_known a.plan a.area ∷ skip 6 (is_pending z.area.job ∷ []))) k.value in
    let r = c.stop in
    let f = r.ensures ∙ ap (λ z. stopped_change a.plan z a.devices a.ages) k.value in
    let j : (wear : List ℕ) → _ = λ wear. cancel_stopped a.plan a.areas a.devices a.ages wear a.area x.result is c.in-Ok.is r.result f in
    record { answer_value = (λ wear. (j wear).0); manager_value = (λ wear. (j wear).1); numbers_bound = (omega (arith, ap (λ z. z.area_number) r.ensures, k.number_bound), omega (arith, ap (λ z. z.device_number) r.ensures)) }
