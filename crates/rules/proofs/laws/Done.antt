-- document 00, demand 2: "requests answered done that, joined in order, are its mapped bytes", up to the processed length at any time
use Rattle.std.specs.Prelude.{ℕ, ◌+◌, ◌≤◌, ◌<◌, Bool, List, [], ◌∷◌, ◌++◌, ◌≡◌, leb, eqb}
use Rattle.std.proofs.Math.Bool.{true, false}
use Rattle.std.proofs.Common.{true≢false, append_assoc, sym, ap, ◌∙◌, arith, leb-true, leb-false}
use Rattle.std.proofs.lemmas.Bool.{false≢true}
use Rattle.std.proofs.Math.Path.{refl}
use Rattle.arith.specs.Listed.{listed}
use Rattle.memory.specs.declared.Task.{Task}
use Rattle.plan.specs.WellFormed.{WellFormed}
use Rattle.plan.specs.declared.records.Plan.{Plan}
use Rattle.segment.specs.Bytes.{joined, mapped_bytes}
use Rattle.segment.specs.laws.BytesLaws.{joined_more, mapped_more, segment_bytes}
use Rattle.segment.specs.laws.CutLaws.{Cut, at_start, at_end}
use Rattle.segment.specs.laws.SegmentLaws.{Admitted, segment_good, segments_next}
use Rattle.segment.specs.Segments.{is_lock, segment_at, segments_from}
use Rattle.segment.specs.declared.Segment.{Segment}
use Rattle.state.specs.declared.Job.{Job}
use Rattle.rules.specs.Layout.{layout_of}
use Rattle.rules.specs.Machine.{is_pending, is_cancelling, due, begun, ended, cancelled, moved, after_failed, job_failed, after_finished, job_finished, after_differs, job_differs}

-- Area a's latest job j, with its requests that were done
pub record DoneFits (p : Plan) (a : ℕ) (j : Job) (done : List Segment) : Type 0 where
  -- the job is cut at the processed length
  pub cut : Cut (segment_at p a j.task) j.task j.processed
  -- the done requests, joined in order, are the mapped bytes up to there
  pub joined_is : joined done ≡ mapped_bytes p a j.task 0 j.processed
  -- and they are the job's segments up to there
  pub listed_is : done ++ segments_from (segment_at p a j.task) j.task j.processed ≡ segments_from (segment_at p a j.task) j.task 0
  -- only the fresh area's job has no byte
  pub admitted : 1 ≤ j.task.length → Admitted p a j.task
  -- before its end a job has a byte left
  pub more : is_pending j ≡ true → j.processed < j.task.length
  -- "A successful job other than a lock request"
  pub complete : is_pending j ≡ false → j.result.0 ≡ 0 → is_lock j.task.kind ≡ false → j.processed ≡ j.task.length

module _ (p : Plan) (a : ℕ) where
  -- a job that is accepted
  pub begun_fits : (t : Task) (j : Job) → Admitted p a t → DoneFits p a (begun (layout_of p) a t j) []
  unfolding joined mapped_bytes listed
  begun_fits t j f =
      record { cut = at_start; joined_is = refl; listed_is = refl; admitted = λ _. f; more = λ _. f.length_some; complete = λ e. absurd (true≢false e) }

  -- a job that ends: with result 0 only at its end, or if it is a lock request
  pub ended_fits : (r : ℕ) {j : Job} {l : List Segment} → (r ≡ 0 → is_lock j.task.kind ≡ false → j.processed ≡ j.task.length) →
      DoneFits p a j l → DoneFits p a (ended r j) l
  ended_fits r g f =
      record { cut = f.cut; joined_is = f.joined_is; listed_is = f.listed_is; admitted = f.admitted; more = λ e. absurd (false≢true e); complete = λ _. g }

  -- a job whose request still runs is cancelled
  pub cancelled_fits : {j : Job} {l : List Segment} → is_pending j ≡ true → DoneFits p a j l → DoneFits p a (cancelled j) l
  cancelled_fits h f =
      record { cut = f.cut; joined_is = f.joined_is; listed_is = f.listed_is; admitted = f.admitted; more = λ _. f.more h; complete = λ e. absurd (true≢false e) }

  -- a request that fails
  pub failed_fits : {j : Job} {l : List Segment} → DoneFits p a j l → DoneFits p a (job_failed j) l
  unfolding job_failed
  failed_fits {j} {l} f = go (is_cancelling j.status) (eqb j.retries_left 0)
    where
      go : (s t : Bool) → DoneFits p a (after_failed s t j) l
      go true t = ended_fits 3 (λ e. absurd (omega arith)) f
      go false true = ended_fits 1 (λ e. absurd (omega arith)) f
      go false false = record { cut = f.cut; joined_is = f.joined_is; listed_is = f.listed_is; admitted = f.admitted; more = f.more; complete = f.complete }

  -- a request that is done, with a byte that differs
  pub differs_fits : {j : Job} {l : List Segment} → DoneFits p a j l → DoneFits p a (job_differs j) l
  unfolding job_differs
  differs_fits {j} {l} f = go (is_cancelling j.status)
    where
      go : (s : Bool) → DoneFits p a (after_differs s j) l
      go true = ended_fits 3 (λ e. absurd (omega arith)) f
      go false = ended_fits 2 (λ e. absurd (omega arith)) f

  -- a request that is done: its bytes come behind the others
  pub finished_fits : WellFormed p → {j : Job} {l : List Segment} → is_pending j ≡ true → DoneFits p a j l →
      DoneFits p a (job_finished (layout_of p) a j) (l ++ (due (layout_of p) a j ∷ []))
  unfolding job_finished layout_of
  finished_fits w {j} {l} h f = go (is_cancelling j.status) (leb j.task.length x) refl
    where
      s : Segment
      s = segment_at p a j.task j.processed

      x : ℕ
      x = j.processed + s.length

      good : Admitted p a j.task
      good = f.admitted (omega (arith, f.more h))

      bytes : joined (l ++ (s ∷ [])) ≡ mapped_bytes p a j.task 0 x
      bytes = rw (joined_more, f.joined_is, mapped_more, segment_bytes p w a j.task good f.cut (f.more h))

      list : (l ++ (s ∷ [])) ++ segments_from (segment_at p a j.task) j.task x ≡ segments_from (segment_at p a j.task) j.task 0
      list =
          append_assoc l (s ∷ []) (segments_from (segment_at p a j.task) j.task x)
          ∙ ap (λ k. l ++ k) (sym (segments_next p w a j.task good j.processed (f.more h)))
          ∙ f.listed_is

      whole : j.task.length ≤ x → x ≡ j.task.length
      whole e = omega (arith, (segment_good p w a j.task good f.cut (f.more h)).length_most, f.more h)

      over : (r : ℕ) → (r ≡ 0 → j.task.length ≤ x) → DoneFits p a (ended r (moved x j.retries_left j)) (l ++ (s ∷ []))
      over r g =
          record {
            cut = at_end f.cut (f.more h);
            joined_is = bytes;
            listed_is = list;
            admitted = f.admitted;
            more = λ e. absurd (false≢true e);
            complete = λ _ e _. whole (g e);
          }

      go : (c t : Bool) → leb j.task.length x ≡ t → DoneFits p a (after_finished c t x (segment_at p a j.task x).retries j) (l ++ (s ∷ []))
      go true t e = over 3 (λ e. absurd (omega arith))
      go false true e = over 0 (λ _. leb-true _ _ e)
      go false false e =
          record {
            cut = at_end f.cut (f.more h);
            joined_is = bytes;
            listed_is = list;
            admitted = f.admitted;
            more = λ _. leb-false _ _ e;
            complete = λ e. absurd (true≢false (sym h ∙ e));
          }
