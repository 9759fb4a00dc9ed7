-- What a load keeps.
use Rattle.std.specs.Prelude.{ℕ, ◌≤◌, ◌≡◌, List, eqb, replicate, true, false}
use Rattle.std.proofs.Common.{arith, eqb-true}
use Rattle.arith.specs.Cases.{by_bool}
use Rattle.plan.specs.Questions.{load_number, loaded_plan}
use Rattle.plan.specs.Records.{empty_plan}
use Rattle.plan.proofs.laws.Accepted.{accepted}
use Rattle.state.specs.Ages.{first_ages}
use Rattle.manager.specs.Load.{fresh_manager, zero_manager, loaded_manager}

-- the fresh manager of the plan that was kept
pub accepted_loaded : (l : List ℕ) → eqb (load_number l) 0 ≡ true → fresh_manager (loaded_plan l) first_ages ≡ loaded_manager l
unfolding loaded_manager loaded_plan
accepted_loaded l e = rw e

pub refused_loaded : (l : List ℕ) → eqb (load_number l) 0 ≡ false → fresh_manager (loaded_plan l) (replicate 8 0) ≡ loaded_manager l
unfolding loaded_manager loaded_plan zero_manager
refused_loaded l e = rw e

-- a load keeps at most 32 sub-areas
pub loaded_few : (l : List ℕ) → (loaded_manager l).plan.sub_area_count ≤ 32
unfolding loaded_manager zero_manager fresh_manager empty_plan
loaded_few l =
    by_bool (eqb (load_number l) 0)
    (λ e. rw e ((accepted l).0 (eqb-true (load_number l) 0 e)).1.sub_area_most)
    (λ e. rw e (omega arith))
