use Prim.Native.Nat.{ℕ}
use mathlib.Core.Path.{◌≡◌, sym, ap, ◌∙◌}
use mathlib.Core.List.{List, []}
use lib.ListN.{length}
use native.Mathlib.Omega.{arith}
use Rattle.machine.specs.laws.SoundCases.{sound_few}
use Rattle.memory.specs.Numbers.{admission_number}
use Rattle.manager.specs.Calls.{manager_of}
use Rattle.changes.specs.laws.Changes.{refused_some}
use Rattle.manager.specs.laws.CallLaws.{release_number_lem, release_few, release_known, release_refused}
use Rattle.manager.specs.laws.ChangeLaws.{kept, release_freed}
use Rattle.manager.proofs.in_place.release_change.Goals as goal

pub release_admission-answer-requires : goal.release_admission-answer-requires
release_admission-answer-requires c = λ e. sound_few _ _ _ (sym c.is_sound-sound.ensures ∙ e)

pub range_device-number-requires : goal.range_device-number-requires
range_device-number-requires c =
    let a = c.args in
    let m = manager_of a.plan a.areas a.devices a.ages [] in
    let number = release_number_lem m a.area _ c.is_sound-sound.ensures _ a.address a.length c.release_admission-answer.ensures in
    let accepted = sym number ∙ ap admission_number c.in-Ok.is in
    release_few m a.area a.address a.length accepted

pub bounds-devices-number : goal.bounds-devices-number
bounds-devices-number c =
    let a = c.args in
    let m = manager_of a.plan a.areas a.devices a.ages [] in
    let number = release_number_lem m a.area _ c.is_sound-sound.ensures _ a.address a.length c.release_admission-answer.ensures in
    let accepted = sym number ∙ ap admission_number c.in-Ok.is in
    let long : length a.devices ≡ 4 = c.well_formed.1.1.0.1.0.1 in
    omega (arith, c.range_device-number.ensures, release_known m a.area a.address a.length 4 long accepted)

pub returns-in-Err : goal.returns-in-Err
returns-in-Err c =
    let a = c.args in
    let number : (wear : List ℕ) → _ = λ wear. release_number_lem (manager_of a.plan a.areas a.devices a.ages wear) a.area _ c.is_sound-sound.ensures _ a.address a.length c.release_admission-answer.ensures in
    rw c.none.ensures (record { answer_value = number; manager_value = (λ wear. kept a.plan a.areas a.devices a.ages wear c.release_admission-answer.result ∙ release_refused (manager_of a.plan a.areas a.devices a.ages wear) a.area a.address a.length (refused_some _ _ c.in-Err.is _ (number wear))); numbers_bound = (omega arith, omega arith) })

pub returns-in-Ok : goal.returns-in-Ok
returns-in-Ok c =
    let a = c.args in
    let number : (wear : List ℕ) → _ = λ wear. release_number_lem (manager_of a.plan a.areas a.devices a.ages wear) a.area _ c.is_sound-sound.ensures _ a.address a.length c.release_admission-answer.ensures in
    let accepted : (wear : List ℕ) → _ = λ wear. sym (number wear) ∙ ap admission_number c.in-Ok.is in
    let long : length a.devices ≡ 4 = c.well_formed.1.1.0.1.0.1 in record { answer_value = number; manager_value = (λ wear. release_freed a.plan a.areas a.devices a.ages wear a.area a.address a.length c.range_device-number.result c.release_admission-answer.result c.range_device-number.ensures (accepted wear)); numbers_bound = (omega arith, omega (arith, c.range_device-number.ensures, release_known (manager_of a.plan a.areas a.devices a.ages []) a.area a.address a.length 4 long (accepted []))) }
