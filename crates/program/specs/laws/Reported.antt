-- What the queries of a manager report, by the history of the same calls.
use Rattle.std.specs.Prelude.{ℕ, ◌<◌, ◌≡◌}
use Rattle.std.proofs.Common.{◌∙◌, ap, arith, lt-ltb}
use Rattle.arith.specs.FirstNo.{first_no}
use Rattle.manager.specs.Calls.{core_of, info_number_of, status_of, result_of, processed_of, info_of, memory_of_area, wear_of_area}
use Rattle.manager.specs.declared.Manager.{Manager}
use Rattle.rules.specs.Admission.{info_questions, info_number}
use Rattle.rules.specs.History.{job_info, asks, History}
use Rattle.rules.specs.Queries.{job_info_of}
use Rattle.rules.specs.Wear.{stuck_wear, worn_at}
use Rattle.rules.proofs.laws.WearLaws.{wear_info_same}
use Rattle.program.specs.Stands.{ages_of, beside, Stands}
use Rattle.program.specs.Statements.{Reported}
use Rattle.program.specs.laws.Answers.{Reached, answer_is}

module _ (m : Manager) (h : History) (S : Stands m.plan m (beside m h)) (r : Reached m.plan (core_of m) (ages_of m)) (a : ℕ)
    (known : a < m.plan.area_count) where
  -- a query of a known area is accepted
  known_accepted : info_number_of m a ≡ 0
  unfolding info_number info_questions first_no
  known_accepted = answer_is m r (asks (job_info a)) h ∙ rw (lt-ltb a m.plan.area_count known)

  pub reported : Reported m.plan m (beside m h) a
  unfolding info_of status_of result_of processed_of memory_of_area wear_of_area
  reported =
      record {
        accepted = known_accepted;
        info = rw known_accepted (ap (λ w. job_info_of m.plan (core_of m) w a) (S.waits a (omega (arith, r.well.area_most))));
        status = rw known_accepted;
        result = rw known_accepted;
        processed = rw known_accepted;
        memory_info = λ address e. rw e;
        wear_info = λ address e.
            rw e (wear_info_same m.plan r.well.sub_area_most (worn_at m.wear) (stuck_wear m.plan h.erases) S.wear a address);
      }
