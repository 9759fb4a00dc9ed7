-- What a job waits at most where only given jobs are accepted, of the rules and of any run that shows the same.
use Rattle.std.specs.Prelude.{ℕ, ◌≤◌, Bool, true, false, List, ◌≡◌}
use Rattle.std.proofs.Common.{sym, subst, arith}
use Rattle.arith.specs.Cases.{pick}
use Rattle.plan.specs.Questions.{load_number}
use Rattle.plan.specs.Records.{plan_of}
use Rattle.plan.specs.WellFormed.{WellFormed}
use Rattle.plan.proofs.laws.Accepted.{accepted}
use Rattle.rules.specs.History.{fresh_history, run}
use Rattle.rules.proofs.laws.AboveJobs.{taken_above, above_jobs}
use Rattle.rules.proofs.laws.Demands.{demands, Agrees}
use Rattle.rules.proofs.laws.LockedNone.{taken_locks, locked_none}
use Rattle.rules.proofs.laws.PlanLaws.{plan_laws}
use Rattle.rules.specs.statements.JobSets.{accepted_jobs, jobs_above, any_locks, OnlyThese, JobSets}
use Rattle.rules.specs.statements.Moments.{Run, rules_run}

one_most : (t : Bool) → pick t 1 0 ≤ 1
one_most true = omega arith
one_most false = omega arith

-- the rules
pub job_sets : JobSets (λ l. rules_run (plan_of l))
job_sets l e js cs taken a =
    let p = plan_of l in
    let w : WellFormed p = ((accepted l).0 e).1 in
    let laws = plan_laws p w in
    let h = run p cs fresh_history in
    let all = demands l e cs in
    let waits = all.demand3 a in
    let above : (h.tallies a).above ≤ jobs_above p a js
    = omega (arith, all.above-bounded a, above_jobs p laws a cs, taken_above p a (accepted_jobs p cs fresh_history) js taken) in
    let none : any_locks p a js ≡ false → (h.tallies a).locked ≡ 0
    = λ n. locked_none p laws a cs (taken_locks p a (accepted_jobs p cs fresh_history) js taken n) in
    record {
      above = above;
      locked = none;
      rounds = λ n. omega (arith, waits.sum, waits.own, waits.below, none n, one_most (h.tallies a).by_round);
    }

-- any run that shows the same
pub agreeing_job_sets : (r : List ℕ → Run) → ((l : List ℕ) → load_number l ≡ 0 → Agrees (plan_of l) (r l)) → JobSets r
agreeing_job_sets r f l e js cs taken a = subst (λ h. OnlyThese (plan_of l) js h a) (sym ((f l e).now cs)) (job_sets l e js cs taken a)
