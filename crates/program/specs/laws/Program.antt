-- The program's theorems, for every accepted load and every list of calls.
use Rattle.std.specs.Prelude.{ℕ, List, ◌≡◌}
use Rattle.std.proofs.Common.{arith, ne_eqb}
use Rattle.machine.specs.laws.SoundLaws.{zero_unsound}
use Rattle.manager.specs.Load.{fresh_manager, zero_manager, loaded_manager}
use Rattle.manager.specs.declared.Manager.{Manager}
use Rattle.plan.specs.Questions.{load_number}
use Rattle.plan.specs.Records.{plan_of}
use Rattle.plan.specs.declared.records.Plan.{Plan}
use Rattle.rules.specs.History.{Call, History, fresh_history, run}
use Rattle.rules.proofs.laws.Demands.{Agrees, agreeing_demands}
use Rattle.rules.proofs.laws.JobSets.{agreeing_job_sets}
use Rattle.program.specs.Run.{run_of}
use Rattle.program.specs.Stands.{with_core_ages, beside, Stands, manager_run}
use Rattle.program.specs.Statements.{Holds, AllCalls, Unloaded}
use Rattle.program.specs.laws.Answers.{unsound_answer, Reached, sound, answer_is, memory_is}
use Rattle.program.specs.laws.Kept.{to_history, to_manager, reached, kept, run_stands}
use Rattle.program.specs.laws.Reported.{reported}

-- what is known of plan, jobs and devices
record Given (p : Plan) (m : Manager) (h : History) : Type 0 where
  stands : Stands p m h
  reached : Reached p h.core h.ages

-- where the history's plan and core are the manager's
holds_here : (m : Manager) (h : History) → Given m.plan m (beside m h) → Holds m.plan m (beside m h)
holds_here m h g =
    let r = g.reached in
    record {
      sound = sound m r;
      stands = g.stands;
      answers = λ k. answer_is m r k h;
      memory = λ k lent. memory_is m r k lent h;
      reported = reported m h g.stands r;
      unstuck = λ i l below. omega (arith, g.stands.wear i l);
    }

-- every accepted load and every list of calls
all_holds : (l : List ℕ) → load_number l ≡ 0 → (cs : List Call) → Holds (plan_of l) (run_of cs (loaded_manager l)) (run (plan_of l) cs fresh_history)
all_holds l e cs =
    let p = plan_of l in
    let m = run_of cs (loaded_manager l) in
    let h = run p cs fresh_history in
    let S = run_stands l e cs in
    to_history p m h S (λ q c ages. Holds q m (with_core_ages c ages h))
    (holds_here m h (to_manager p m h S (λ q c ages. Given q m (with_core_ages c ages h)) (record { stands = S; reached = reached l e cs })))

-- the manager that stands where a history does shows just that history
same_history : {p : Plan} {m : Manager} {h : History} → Stands p m h → beside m h ≡ h
same_history {h = h} S = λ i. with_core_ages (S.core i) (S.ages i) h

-- so the program shows what the rules show
agrees : (l : List ℕ) → load_number l ≡ 0 → Agrees (plan_of l) (manager_run l)
agrees l e =
    record {
      now = λ cs. same_history (run_stands l e cs);
      number = λ cs k. (all_holds l e cs).answers k;
      next = λ cs k. same_history (kept (plan_of l) (run_of cs (loaded_manager l)) (run (plan_of l) cs fresh_history) (run_stands l e cs) (reached l e cs) k);
      memory = λ cs k lent. (all_holds l e cs).memory k lent;
    }

pub all_calls : AllCalls
all_calls = record { holds = all_holds; demands = agreeing_demands manager_run agrees; job_sets = agreeing_job_sets manager_run agrees }

-- the manager of all zeros
pub unloaded : Unloaded
unfolding zero_manager fresh_manager loaded_manager
unloaded =
    record {
      unsound = zero_unsound _ _;
      refused_load = λ l f. rw (ne_eqb (load_number l) 0 f);
      answers = unsound_answer zero_manager (zero_unsound _ _);
    }
