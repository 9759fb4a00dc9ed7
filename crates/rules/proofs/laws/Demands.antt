-- The demands and the requests, for every accepted load and every list of calls, of the rules and of any run that shows the same.
use Rattle.std.specs.Prelude.{ℕ, List, ◌≡◌}
use Rattle.std.proofs.Common.{sym, subst}
use Rattle.plan.proofs.laws.Accepted.{accepted}
use Rattle.plan.specs.Questions.{load_number}
use Rattle.plan.specs.Records.{plan_of}
use Rattle.plan.specs.WellFormed.{WellFormed}
use Rattle.plan.specs.declared.records.Plan.{Plan}
use Rattle.rules.specs.Answers.{call_number, call_memory}
use Rattle.rules.specs.History.{Call, fresh_history, step, run}
use Rattle.rules.specs.Memory.{Memory}
use Rattle.rules.proofs.laws.AboveFits.{above-bounded}
use Rattle.rules.proofs.laws.ByAcceptance.{by_acceptance}
use Rattle.rules.proofs.laws.Demand1.{demand1}
use Rattle.rules.proofs.laws.Demand2.{demand2}
use Rattle.rules.proofs.laws.Demand3.{demand3}
use Rattle.rules.proofs.laws.Devices.{devices_kept}
use Rattle.rules.proofs.laws.DoneKept.{done_fits}
use Rattle.rules.proofs.laws.FirstCome.{first_come}
use Rattle.rules.proofs.laws.EraseLaws.{erases_whole}
use Rattle.rules.proofs.laws.Ordered.{round_ordered}
use Rattle.rules.proofs.laws.PlanLaws.{plan_laws}
use Rattle.rules.proofs.laws.RoundBytes.{run_bytes}
use Rattle.rules.proofs.laws.Runs.{history_fits}
use Rattle.rules.proofs.laws.Suspended.{suspended_waits}
use Rattle.rules.specs.statements.Moments.{Run, rules_run}
use Rattle.rules.specs.statements.Statements.{Demands, AllDemands}

-- the rules
pub demands : AllDemands (λ l. rules_run (plan_of l))
demands l e cs =
    let p = plan_of l in
    let w : WellFormed p = ((accepted l).0 e).1 in
    let fits = history_fits p (plan_laws p w) in
    let h = run p cs fresh_history in
    let done = done_fits p w (λ ds. (fits ds).reachable) in
    let order = first_come p h (fits cs).apart in
    record {
      demand1 = demand1 p w h (fits cs).reachable (λ a _. (done cs a).cut);
      demand2 = demand2 p w h (fits cs).reachable (done cs);
      bytes = run_bytes p w (λ ds. ((fits ds).reachable, done ds)) cs;
      ordered = round_ordered p (plan_laws p w) h (fits cs) order;
      devices = devices_kept p h;
      first_come = order;
      by_acceptance = by_acceptance p (plan_laws p w) cs;
      suspended = suspended_waits p (plan_laws p w) cs;
      erases = erases_whole p w cs fresh_history (λ ds. (fits ds).reachable) (λ ds a _. (done ds a).cut) (unfold fresh_history in tt);
      demand3 = demand3 p h (fits cs);
      above-bounded = above-bounded p (plan_laws p w) cs;
    }

-- run r shows, after every list of calls, what the rules' own run shows
pub record Agrees (p : Plan) (r : Run) : Type 0 where
  pub now : (cs : List Call) → (r cs).now ≡ run p cs fresh_history
  pub number : (cs : List Call) (k : Call) → (r cs).number k ≡ call_number p k (run p cs fresh_history)
  pub next : (cs : List Call) (k : Call) → (r cs).next k ≡ step p k (run p cs fresh_history)
  pub memory : (cs : List Call) (k : Call) (m : Memory) → (r cs).memory k m ≡ call_memory p k (run p cs fresh_history) m

run_is : (p : Plan) (r : Run) → Agrees p r → r ≡ rules_run p
run_is p r f = λ i cs. record { now = f.now cs i; number = λ k. f.number cs k i; next = λ k. f.next cs k i; memory = λ k m. f.memory cs k m i }

-- it meets them all
pub agreeing_demands : (r : List ℕ → Run) → ((l : List ℕ) → load_number l ≡ 0 → Agrees (plan_of l) (r l)) → AllDemands r
agreeing_demands r f l e cs = subst (λ x. Demands (plan_of l) x cs) (sym (run_is (plan_of l) (r l) (f l e))) (demands l e cs)
