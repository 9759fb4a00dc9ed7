-- The manager of an accepted load: it accepts just the jobs that pass questions 10 and 12 to 15.
use Rattle.std.specs.Prelude.{ℕ, Bool, true, false, ◌&&◌, List, [], ◌∷◌, ◌≡◌, refl, eqb}
use Rattle.std.proofs.Common.{sym, ap, subst, ◌∙◌, eq-eqb, ltb-true}
use Rattle.arith.specs.Cases.{and_elim}
use Rattle.arith.specs.FirstNo.{first_no}
use Rattle.figures.specs.Figures.{Audited}
use Rattle.manager.specs.Calls.{job_number_of}
use Rattle.manager.specs.Load.{fresh_manager, loaded_manager}
use Rattle.manager.specs.declared.Manager.{Manager}
use Rattle.memory.specs.declared.Task.{Task}
use Rattle.plan.specs.Questions.{load_number}
use Rattle.plan.specs.Records.{plan_of}
use Rattle.plan.specs.WellFormed.{WellFormed}
use Rattle.plan.specs.declared.records.Plan.{Plan}
use Rattle.plan.proofs.laws.Accepted.{accepted}
use Rattle.program.specs.Run.{run_of}
use Rattle.program.specs.laws.Program.{all_calls}
use Rattle.rules.specs.Admission.{is_known, is_idle, job_questions, job_number, admits}
use Rattle.rules.specs.History.{submit, fresh_history, run}
use Rattle.rules.specs.Machine.{Core}
use Rattle.rules.proofs.laws.PlanLaws.{admitted}
use Rattle.rules.specs.statements.JobSets.{is_admissible}

pub record Loaded (m : Manager) : Type 0 where
  pub plan : WellFormed m.plan
  pub admits : (a : ℕ) (t : Task) → eqb (job_number_of m a t) 0 ≡ is_admissible m.plan (record { area = a; task = t })

-- no "no" among the questions
all_yes : (a b c d e : Bool) → eqb (first_no 10 (a ∷ true ∷ b ∷ c ∷ d ∷ e ∷ [])) 0 ≡ (a && (b && (c && (d && e))))
unfolding first_no
all_yes false b c d e = refl
all_yes true false c d e = refl
all_yes true true false d e = refl
all_yes true true true false e = refl
all_yes true true true true false = refl
all_yes true true true true true = refl

-- an idle area: question 11 is answered "yes"
idle_admits : (p : Plan) (c : Core) (a : ℕ) (t : Task) → is_idle c a ≡ true → eqb (job_number p c a t) 0 ≡ (is_known p a && admits p a t)
unfolding job_number job_questions admits
idle_admits p c a t h = rw h (all_yes _ _ _ _ _)

-- the plan of the load
loaded_plan_lem : (l : List ℕ) → load_number l ≡ 0 → (loaded_manager l).plan ≡ plan_of l
unfolding loaded_manager fresh_manager
loaded_plan_lem l e = rw (eq-eqb (load_number l) 0 e)

-- the number is that of the rules, and nothing is pending
first_number_lem : (l : List ℕ) → load_number l ≡ 0 → (a : ℕ) (t : Task) → job_number_of (loaded_manager l) a t ≡ job_number (plan_of l) fresh_history.core a t
unfolding run_of run
first_number_lem l e a t = (all_calls.holds l e []).answers (submit a t)

first_idle : (a : ℕ) → is_idle fresh_history.core a ≡ true
unfolding fresh_history
first_idle a = refl

pub loaded : (l : List ℕ) → load_number l ≡ 0 → Loaded (loaded_manager l)
loaded l e =
    record {
      plan = subst WellFormed (sym (loaded_plan_lem l e)) ((accepted l).0 e).1;
      admits = λ a t.
          ap (λ n. eqb n 0) (first_number_lem l e a t)
          ∙ idle_admits (plan_of l) fresh_history.core a t (first_idle a)
          ∙ ap (λ p. is_admissible p (record { area = a; task = t })) (sym (loaded_plan_lem l e));
    }

-- an accepted job is an admitted one
pub audited : (m : Manager) → Loaded m → (a : ℕ) (t : Task) → job_number_of m a t ≡ 0 → Audited m.plan a t
audited m f a t e =
    let yes = and_elim _ _ (sym (f.admits a t) ∙ eq-eqb _ _ e) in
    record { plan = f.plan; job = admitted m.plan a t (ltb-true _ _ yes.0) yes.1 }
