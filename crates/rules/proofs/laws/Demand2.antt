-- Demand 2 holds in every reachable state.
use Rattle.std.specs.Prelude.{ℕ, List, [], ◌++◌, ◌≡◌}
use Rattle.std.proofs.Common.{append-nil, sym, ap, subst, ◌∙◌, arith, eq-eqb}
use Rattle.std.proofs.Math.Path.{refl}
use Rattle.arith.specs.Cases.{by_leb}
use Rattle.arith.specs.Parts.{upd_same}
use Rattle.memory.specs.declared.DeviceAnswer.{DeviceAnswer}
use Rattle.memory.specs.declared.Task.{Task}
use Rattle.plan.specs.WellFormed.{WellFormed}
use Rattle.plan.specs.declared.records.Plan.{Plan}
use Rattle.segment.specs.Bytes.{joined, mapped_bytes}
use Rattle.segment.specs.Segments.{segment_at}
use Rattle.segment.specs.laws.BytesLaws.{mapped_once}
use Rattle.segment.specs.laws.CutLaws.{segments_end}
use Rattle.state.specs.declared.DeviceState.TheVariants.{Runs}
use Rattle.rules.specs.Admission.{job_number, cancel_number, round_number, admits}
use Rattle.rules.specs.History.{submit, cancels, round, no_tally, History, lent, submitted, step}
use Rattle.rules.specs.Layout.{layout_of}
use Rattle.rules.specs.Machine.{need, holds, begin, cancel}
use Rattle.rules.specs.Memory.{Memory}
use Rattle.rules.specs.Round.{answer_for, take_all}
use Rattle.rules.proofs.laws.Admitted.{job_admitted}
use Rattle.rules.proofs.laws.DoneKept.{Fits}
use Rattle.rules.proofs.laws.JobLaws.{place_some, plan_retries, answered_so, round_own, round_rest, others_keep, cancelled_by, cancelled_till}
use Rattle.rules.proofs.laws.PieceLaws.{pieces_are}
use Rattle.rules.proofs.laws.PlanLaws.{admitted}
use Rattle.rules.proofs.laws.Reachable.{Reachable}
use Rattle.rules.proofs.laws.Requests.{placed, running_known}
use Rattle.rules.proofs.laws.Unmoved.{agrees_lent}
use Rattle.rules.specs.statements.Jobs.{JobAccepted, JobAnswered, JobCancelled, agrees_due}
use Rattle.rules.specs.statements.Moments.{moment_of}
use Rattle.rules.specs.statements.Statements.{Demand2}

module _ (p : Plan) (h : History) (a : ℕ) where
  -- a job that is accepted
  job_accepted : (t : Task) → job_number p h.core a t ≡ 0 → JobAccepted p a t h (step p (submit a t) h)
  unfolding step submitted begin
  job_accepted t e =
      let known = job_admitted p h.core a t e in
      let f = admitted p a t known.0 known.2 in
      rw (eq-eqb (job_number p h.core a t) 0 e)
      (record {
        status = rw upd_same;
        task = rw upd_same;
        processed = rw upd_same;
        result = rw upd_same;
        counts = upd_same h.tallies a no_tally;
        none_done = upd_same h.done a [];
        retries = rw upd_same (plan_retries p a t f 0 f.length_some);
        places = place_some f;
      })

  -- a cancel that is accepted
  cancel_accepted : cancel_number p h.core a ≡ 0 → let j = h.core.jobs a in
      JobCancelled (holds a (h.core.devices (need (layout_of p) a j))) j ((step p (cancels a) h).core.jobs a)
  unfolding step cancel
  cancel_accepted e =
      rw (eq-eqb (cancel_number p h.core a) 0 e)
      (record {
        ends = λ o. rw (o, upd_same) (record { task = refl; processed = refl; status = refl; result = refl });
        stays = λ o. rw (o, upd_same) (refl, refl, refl, refl, refl);
      })

-- an accepted round, in which area a's request runs on device d
round_answered : (p : Plan) (w : WellFormed p) (h : History) (reach : Reachable (layout_of p) (admits p) h.core) → Fits p h → (a : ℕ)
    (answers : List DeviceAnswer) (m : Memory) → round_number p m.image m.store ≡ 0 → (d polls : ℕ) → (h.core.devices d).state ≡ Runs a polls →
    let j = h.core.jobs a in JobAnswered p d a polls (answer_for answers d) (agrees_due p a j m) j ((step p (round answers m) h).core.jobs a)
unfolding layout_of
round_answered p w h reach fits a answers m e d polls runs =
    let j = h.core.jobs a in
    let g = placed p w h.core reach (λ a _. (fits a).cut) runs in
    subst (λ b. JobAnswered p d a polls (answer_for answers d) b j ((step p (round answers m) h).core.jobs a))
    (agrees_lent p w h reach (λ a _. (fits a).cut) answers m e d a polls runs)
    (rw (round_own p h reach a answers m e d polls (running_known p w h.core reach d a polls runs) runs)
    (answered_so p w d a polls j (take_all p answers d (lent m h)).memory (answer_for answers d) g.job (omega (arith, g.good.length_most, g.more))))

-- demand 2
pub demand2 : (p : Plan) → WellFormed p → (h : History) → Reachable (layout_of p) (admits p) h.core → Fits p h → (a : ℕ) → Demand2 p (moment_of p h) a
demand2 p w h reach fits a =
    let j = h.core.jobs a in
    record {
      cut = (fits a).listed_is;
      cut_whole = λ e r k.
          sym (append-nil (h.done a))
          ∙ ap (λ l. h.done a ++ l) (sym (segments_end (segment_at p a j.task) j.task j.processed (omega (arith, (fits a).complete e r k))))
          ∙ (fits a).listed_is;
      pieces = λ _.
          by_leb 1 j.task.length (λ _ l. pieces_are p w a j.task ((fits a).admitted l))
          (λ _ l. rw (segments_end (segment_at p a j.task) j.task 0 (omega arith)) (omega arith));
      joined_so_far = (fits a).joined_is;
      joined_whole = λ e r k. subst (λ n. joined (h.done a) ≡ mapped_bytes p a j.task 0 n) ((fits a).complete e r k) (fits a).joined_is;
      bytes_once = λ x y l. mapped_once p w a _ ((fits a).admitted (omega arith)) x y l;
      accepted_job = job_accepted p h a;
      answered = round_answered p w h reach fits a;
      waited = λ answers m e f. round_rest p h reach a answers m e f;
      kept = others_keep p h a;
      accepted_cancel = cancel_accepted p h a;
      cancelled_by = cancelled_by p h a;
      cancelled_till = cancelled_till p h a;
    }
