-- Demand 3 holds of every history.
use Rattle.std.specs.Prelude.{ℕ}
use Rattle.std.proofs.Common.{arith}
use Rattle.plan.specs.declared.records.Plan.{Plan}
use Rattle.rules.specs.History.{History}
use Rattle.rules.proofs.laws.Runs.{HistoryFits}
use Rattle.rules.specs.statements.Statements.{Demand3}

pub demand3 : (p : Plan) (h : History) → HistoryFits p h → (a : ℕ) → Demand3 p h a
demand3 p h f a =
    let k = f.tallies a in
    record { sum = k.sum; own = omega (arith, k.left); below = omega (arith, k.left) }
