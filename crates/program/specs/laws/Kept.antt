-- Every call, accepted or refused, keeps the manager where the history is, and so does every list of calls from an accepted load.
use Rattle.std.specs.Prelude.{ℕ, zero, suc, ◌<◌, List, [], ◌∷◌, ◌≡◌, refl, eqb, get_or, replicate}
use Rattle.std.proofs.Common.{sym, ap, subst, subst₂, arith, ltb-true}
use Rattle.std.proofs.Math.Path.{fun_ext}
use Rattle.std.proofs.lemmas.List.{length-replicate, get_or-replicate}
use Rattle.std.proofs.Math.ListN.{get_or-eq_default}
use Rattle.arith.specs.Cases.{pick, by_ltb, by_eqb}
use Rattle.arith.specs.FirstNo.{none_elim}
use Rattle.manager.specs.Calls.{core_of, after_job, after_release, after_cancel, after_round}
use Rattle.manager.specs.Load.{fresh_manager, loaded_manager}
use Rattle.manager.specs.declared.Manager.{Manager}
use Rattle.plan.proofs.laws.Accepted.{accepted}
use Rattle.plan.specs.Questions.{load_number}
use Rattle.plan.specs.Records.{plan_of}
use Rattle.plan.specs.WellFormed.{WellFormed}
use Rattle.plan.specs.declared.records.Plan.{Plan}
use Rattle.rules.specs.Admission.{cancel_questions, cancel_number}
use Rattle.rules.proofs.laws.Admitted.{job_admitted, release_admitted}
use Rattle.rules.proofs.laws.DoneKept.{done_fits}
use Rattle.rules.specs.History.{Call, submit, releases, cancels, asks, round, History, fresh_history, step, run}
use Rattle.rules.specs.Machine.{Core}
use Rattle.rules.proofs.laws.PlanLaws.{plan_laws}
use Rattle.rules.proofs.laws.Runs.{history_fits}
use Rattle.rules.specs.Wear.{worn_in}
use Rattle.state.specs.Ages.{first_ages, age_in}
use Rattle.state.specs.laws.AgesLaws.{age_past}
use Rattle.state.specs.Fresh.{fresh_area, free_device}
use Rattle.program.specs.laws.Answers.{Reached, answer_is}
use Rattle.program.specs.laws.KeptCalls.{job_kept, cancel_kept, release_kept}
use Rattle.program.specs.laws.KeptRound.{round_kept}
use Rattle.program.specs.Run.{manager_after, run_of}
use Rattle.program.specs.Stands.{ages_of, with_core_ages, beside, Stands}

-- manager and history accept a call by equal numbers
both_accept : {A B : Type 0} (P : A → B → Type 0) (n k : ℕ) {x y : A} {u v : B} → n ≡ k → (k ≡ 0 → P x u) → P y v →
    P (pick (eqb n 0) x y) (pick (eqb k 0) u v)
both_accept P n k e f g = by_eqb k 0 (λ q z. simp (e, q) (f z)) (λ q _. simp (e, q) g)

-- an accepted cancel is of a known area
cancel_known : (p : Plan) (c : Core) (a : ℕ) → cancel_number p c a ≡ 0 → a < p.area_count
unfolding cancel_number cancel_questions
cancel_known p c a e = ltb-true _ _ (none_elim 10 (cancel_questions p c a) (omega arith) e 0 (omega arith))

module _ (m : Manager) (h : History) (S : Stands m.plan m (beside m h)) (r : Reached m.plan (core_of m) (ages_of m)) where
  -- every call, where the history's plan and core are the manager's
  pub call_kept : (k : Call) → Stands m.plan (manager_after k m) (step m.plan k (beside m h))
  unfolding step after_job after_release after_cancel after_round
  call_kept (submit a t) =
      both_accept (Stands m.plan) _ _ (answer_is m r (submit a t) h)
      (λ e. job_kept m h S r.apart a t (omega (arith, (job_admitted m.plan (core_of m) a t e).0, r.well.area_most)))
      S
  call_kept (releases a address n) =
      both_accept (Stands m.plan) _ _ (answer_is m r (releases a address n) h)
      (λ e. release_kept m h S _ a (release_admitted m.plan (core_of m) a address n e))
      S
  call_kept (cancels a) =
      both_accept (Stands m.plan) _ _ (answer_is m r (cancels a) h)
      (λ e. cancel_kept m h S a (omega (arith, cancel_known m.plan (core_of m) a e, r.well.area_most)))
      S
  call_kept (asks q) = S
  call_kept (round answers given) =
      both_accept (Stands m.plan) _ _ (answer_is m r (round answers given) h) (λ _. round_kept m h S r answers given) S

module _ (p : Plan) (m : Manager) (h : History) (S : Stands p m h) where
  -- what holds of plan, core and ages of the manager holds of those of the history, and back
  pub to_history : (P : Plan → Core → (ℕ → ℕ) → Type 0) → P m.plan (core_of m) (ages_of m) → P p h.core h.ages
  to_history P x = subst (P p h.core) S.ages (subst₂ (λ q c. P q c (ages_of m)) S.plan S.core x)

  pub to_manager : (P : Plan → Core → (ℕ → ℕ) → Type 0) → P p h.core h.ages → P m.plan (core_of m) (ages_of m)
  to_manager P x = subst (P m.plan (core_of m)) (sym S.ages) (subst₂ (λ q c. P q c h.ages) (sym S.plan) (sym S.core) x)

  -- every call
  pub kept : Reached p h.core h.ages → (k : Call) → Stands p (manager_after k m) (step p k h)
  kept r k =
      to_history (λ q c ages. Stands q (manager_after k m) (step q k (with_core_ages c ages h)))
      (call_kept m h (to_manager (λ q c ages. Stands q m (with_core_ages c ages h)) S) (to_manager Reached r) k)

-- every list of calls
runs_kept : (p : Plan) (cs : List Call) (m : Manager) (h : History) → ((ds : List Call) → let e = run p ds h in Reached p e.core e.ages) → Stands p m h →
    Stands p (run_of cs m) (run p cs h)
unfolding run run_of
runs_kept p [] m h r S = S
runs_kept p (c ∷ cs) m h r S = runs_kept p cs (manager_after c m) (step p c h) (λ ds. r (c ∷ ds)) (kept p m h S (r []) c)

-- an entry of a list that holds one value throughout, or that value past its end
all_same : {A : Type 0} (n : ℕ) (x : A) (i : ℕ) → get_or (replicate n x) i x ≡ x
all_same n x i =
    by_ltb i n (λ _ h. get_or-replicate n i x x h) (λ _ h. get_or-eq_default (replicate n x) x (omega (arith, length-replicate n x)))

first_age : (a : ℕ) → age_in first_ages a ≡ a
unfolding age_in
first_age zero = refl
first_age (suc zero) = refl
first_age (suc (suc zero)) = refl
first_age (suc (suc (suc zero))) = refl
first_age (suc (suc (suc (suc zero)))) = refl
first_age (suc (suc (suc (suc (suc zero))))) = refl
first_age (suc (suc (suc (suc (suc (suc zero)))))) = refl
first_age (suc (suc (suc (suc (suc (suc (suc zero))))))) = refl
first_age (suc (suc (suc (suc (suc (suc (suc (suc a)))))))) = sym (age_past first_ages _ (omega arith))

-- the manager of a plan stands at the start
fresh_stands : (p : Plan) → Stands p (fresh_manager p first_ages) fresh_history
unfolding fresh_manager fresh_history worn_in
fresh_stands p =
    record {
      plan = refl;
      areas_length = refl;
      devices_length = refl;
      core = λ i. record { jobs = λ a. (all_same 8 fresh_area a i).job; devices = λ d. all_same 4 free_device d i };
      ages = fun_ext first_age;
      waits = λ a _. ap (λ x. x.waits) (all_same 8 fresh_area a);
      wear_length = refl;
      wear = λ i _. all_same 32 0 i;
    }

module _ (l : List ℕ) (e : load_number l ≡ 0) where
  -- every history of an accepted load
  pub reached : (cs : List Call) → let h = run (plan_of l) cs fresh_history in Reached (plan_of l) h.core h.ages
  reached cs =
      let p = plan_of l in
      let w : WellFormed p = ((accepted l).0 e).1 in
      let fits = history_fits p (plan_laws p w) in
      record {
        well = w;
        reachable = (fits cs).reachable;
        cuts = λ a _. (done_fits p w (λ ds. (fits ds).reachable) cs a).cut;
        apart = (fits cs).apart;
      }

  -- an accepted load, then every list of calls
  pub run_stands : (cs : List Call) → Stands (plan_of l) (run_of cs (loaded_manager l)) (run (plan_of l) cs fresh_history)
  unfolding loaded_manager
  run_stands cs = runs_kept (plan_of l) cs (loaded_manager l) fresh_history reached (rw e (fresh_stands (plan_of l)))
