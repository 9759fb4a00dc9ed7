-- What ranks above is among the jobs that can.
use Rattle.std.specs.Prelude.{ℕ, true, ◌≡◌, refl}
use Rattle.std.proofs.Common.{arith, le-leb}
use Rattle.arith.specs.Cases.{by_eqb}
use Rattle.plan.specs.declared.records.Plan.{Plan}
use Rattle.rules.specs.Layout.{priority_of}
use Rattle.rules.specs.Ranks.{ranks_above}
use Rattle.rules.proofs.laws.RankLaws.{ranks_plain}
use Rattle.rules.specs.statements.JobSets.{may_rank_above}

-- what ranks above can
pub ranks_may : (p : Plan) (ages : ℕ → ℕ) (a b : ℕ) → ranks_above (priority_of p) ages b a ≡ true → may_rank_above p b a ≡ true
ranks_may p ages a b h =
    let k = (ranks_plain (priority_of p) ages b a).0 h in
    by_eqb b a
    (λ _ q. absurd (let m = rw q at k.1 in let n = m refl in omega arith))
    (λ e _. rw (e, le-leb (priority_of p a) (priority_of p b) (omega (arith, k.0))))
