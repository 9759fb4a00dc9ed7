use Prim.Native.Nat.{ℕ}
use mathlib.Core.List.{List, []}
use mathlib.Core.Path.{sym, ap, ◌∙◌}
use Rattle.memory.specs.Numbers.{admission_number}
use Rattle.effects.specs.Effects.{memory_of}
use Rattle.manager.specs.Calls.{manager_of, round_number_of}
use Rattle.manager.specs.declared.Manager.{Manager}
use Rattle.changes.specs.laws.Changes.{refused_some}
use Rattle.manager.specs.laws.CallLaws.{round_asked, round_refused, round_accepted, round_memory_refused, round_memory_accepted}
use Rattle.wear.specs.Wear.{add_worn}
use Rattle.manager.proofs.in_place.round_change.Goals as goal

pub run_round-requires : goal.run_round-requires
unfolding round_number_of
run_round-requires c =
    let a = c.args in
    let m = manager_of a.plan a.areas a.devices a.ages [] in
    let lent = memory_of a.image.now a.store.now in
    let x = c.round_admission-asked.ensures in
    let asked = round_asked m a.answers lent (sym x.answer_value ∙ ap admission_number c.in-Ok.is) in
    (asked.0, asked.1, asked.2, x.due_if_sound asked.0)

pub returns-in-Err : goal.returns-in-Err
unfolding round_number_of
returns-in-Err c =
    let a = c.args in
    let m : List ℕ → Manager = manager_of a.plan a.areas a.devices a.ages in
    let lent = memory_of a.image.now a.store.now in
    let x = c.round_admission-asked.ensures in
    let no = refused_some _ _ c.in-Err.is _ x.answer_value in record { answer_value = (λ wear. x.answer_value); manager_value = (λ wear. round_refused (m wear) a.answers lent no _ c.none.ensures); image_after = (λ wear. ap (λ z. z.image) (round_memory_refused (m wear) a.answers lent no)); store_after = (λ wear. ap (λ z. z.store) (round_memory_refused (m wear) a.answers lent no)) }

pub returns-in-Ok : goal.returns-in-Ok
unfolding round_number_of
returns-in-Ok c =
    let a = c.args in
    let m : List ℕ → Manager = manager_of a.plan a.areas a.devices a.ages in
    let lent = memory_of a.image.now a.store.now in
    let x = c.round_admission-asked.ensures in
    let yes = sym x.answer_value ∙ ap admission_number c.in-Ok.is in
    let r = c.run_round in record { answer_value = (λ wear. x.answer_value); manager_value = (λ wear. round_accepted (m wear) a.answers lent yes r.result.areas r.result.devices (add_worn r.result.worn 4 wear) r.ensures.areas_value r.ensures.devices_value (r.ensures.worn_value wear)); image_after = (λ wear. r.ensures.image_after ∙ ap (λ z. z.image) (round_memory_accepted (m wear) a.answers lent yes)); store_after = (λ wear. r.ensures.store_after ∙ ap (λ z. z.store) (round_memory_accepted (m wear) a.answers lent yes)) }
