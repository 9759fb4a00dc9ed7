-- document 01: what a load returns
use Rattle.std.specs.Prelude.{ℕ, List, eqb, replicate}
use Rattle.arith.specs.Cases.{pick}
use Rattle.plan.specs.Records.{plan_of, empty_plan}
use Rattle.plan.specs.Questions.{load_number}
use Rattle.plan.specs.declared.records.Plan.{Plan}
use Rattle.state.specs.Ages.{first_ages}
use Rattle.state.specs.Fresh.{fresh_area, free_device}
use Rattle.manager.specs.declared.Manager.{Manager}

-- the manager of a plan: every area fresh, with these ages; nothing runs, nothing is locked, and nothing is worn
unfoldable pub fresh_manager : Plan → List ℕ → Manager
fresh_manager p ages = record { plan = p; areas = replicate 8 fresh_area; devices = replicate 4 free_device; ages = ages; wear = replicate 32 0 }

-- the manager of all zeros
unfoldable pub zero_manager : Manager
zero_manager = fresh_manager empty_plan (replicate 8 0)

-- "A refused load returns the manager of all zeros"
unfoldable pub loaded_manager : List ℕ → Manager
loaded_manager l = pick (eqb (load_number l) 0) (fresh_manager (plan_of l) first_ages) zero_manager
