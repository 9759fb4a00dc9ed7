-- The rows of a job, one at a time.
use Rattle.std.specs.Prelude.{ℕ, ◌+◌, ◌≤◌, ◌<◌, true, false, List, [], ◌∷◌, ◌≡◌, Some, None, eqb, length, get_or}
use Rattle.std.specs.Option.{option_eq}
use Rattle.std.specs.declared.option.Option.{Option}
use Rattle.std.proofs.Common.{true≢false, eqb-true, sym, ap, ◌∙◌, arith}
use Rattle.std.proofs.lemmas.Bool.{false≢true}
use Rattle.std.proofs.Math.Path.{refl}
use borrow.Author.Tests.{eq-eqb, ne_eqb}
use Rattle.arith.specs.Cases.{pick, by_eqb}
use Rattle.figures.specs.Figures.{Audited, device_or_none}
use Rattle.figures.specs.Ranges.{ranges_of}
use Rattle.figures.specs.declared.Range.{Range}
use Rattle.figures.specs.laws.BoundLaws.{same_last, segment_some, next_cut_lem, next_segments}
use Rattle.memory.specs.declared.Task.{Task}
use Rattle.plan.specs.declared.records.Plan.{Plan}
use Rattle.rows.specs.Rows.{row_text, rows_text}
use Rattle.rows.specs.Written.{PrintsPart}
use Rattle.rows.specs.declared.Row.{Row}
use Rattle.rows.specs.laws.WrittenLaws.{part_more}
use Rattle.segment.specs.Segments.{is_lock, segment_at, segments_from}
use Rattle.segment.specs.declared.Segment.{Segment}
use Rattle.segment.specs.laws.CutLaws.{at_start, segments_end}
use Rattle.texts.specs.Pages.{Prints}
use Rattle.texts.specs.declared.page.Page.{Page}
use Rattle.job_rows.specs.JobRows.{head_row, refused_row, image_row, image_rows, no_image_row, window_row, stretch_row, segment_row, cut_rows, foot_rows, job_rows}
use Rattle.job_rows.specs.Cursors.{rows_left, foot_index, AtSegment, AtRow, Ready, is_end, Fits}
use Rattle.job_rows.specs.declared.Cursor.{Cursor}
use Rattle.job_rows.specs.declared.Cursor.TheVariants.{Head, Refused, Image, Window, Cut, Foot, End}
use Rattle.job_rows.specs.declared.CutPoint.{CutPoint}
use Rattle.job_rows.specs.declared.Foot.{Foot as FootRow}
use Rattle.job_rows.specs.declared.Foot.TheVariants.{Counts, Own, Below, Above, Locked, Rounds}
use Rattle.job_rows.specs.declared.JobFacts.{JobFacts}
use Rattle.job_rows.specs.declared.Step.{Step}

-- the next row of those left is printed
pub record StepDone (p : Plan) (a : ℕ) (t : Task) (f : JobFacts) (c : Cursor) (s : Step) : Type 0 where
  pub rows : rows_left p a t f c ≡ s.row ∷ rows_left p a t f s.cursor
  pub fits : Fits p a t f s.cursor

-- row i of the foot
abbrev pub foot_at : JobFacts → ℕ → Row
foot_at f i = get_or (foot_rows f) i no_image_row

-- an admitted job's length is a number of 32 bits
pub length_few : (p : Plan) (a : ℕ) (t : Task) → Audited p a t → t.length ≤ 4294967295
length_few p a t j = omega (arith, j.job.before_end, j.plan.space_end a j.job.known)

-- a segment on another device begins a stretch
pub stretch_few : (p : Plan) (a : ℕ) (t : Task) (c : CutPoint) → AtRow p a t c → (s : Segment) → s ≡ segment_at p a t c.at → (device_or_none c.last ≡ s.device → ⊥) → c.spans ≤ c.segments
stretch_few p a t c r s is h = let few = rw (← is, ne_eqb (device_or_none c.last) s.device h) at r.spans_few in omega arith

-- whether the last stretch is on a device
pub same_device : (last : Option ℕ) (d : ℕ) → d < 4 → option_eq eqb last (Some d) ≡ true → device_or_none last ≡ d
same_device last d h e = eqb-true _ _ (sym (same_last last d h) ∙ e)

pub other_device : (last : Option ℕ) (d : ℕ) → d < 4 → option_eq eqb last (Some d) ≡ false → device_or_none last ≡ d → ⊥
other_device last d h e q = absurd (true≢false (sym (eq-eqb _ _ q) ∙ sym (same_last last d h) ∙ e))

module _ (p : Plan) (a : ℕ) (t : Task) (f : JobFacts) where
  pub first_segment : Audited p a t → AtSegment p a t 0
  first_segment j = record { job = j; cut = at_start; more = j.job.length_some }

  pub head_admitted : f.number ≡ 0 → Ready p a t f Head → StepDone p a t f Head (record { row = head_row a t; cursor = Image 0 })
  unfolding job_rows
  head_admitted e r = record { rows = rw (eq-eqb _ _ e); fits = λ _. first_segment (r e) }

  pub head_refused : (f.number ≡ 0 → ⊥) → StepDone p a t f Head (record { row = head_row a t; cursor = Refused })
  unfolding job_rows
  head_refused e = record { rows = rw (ne_eqb _ _ e); fits = λ _. refl }

  pub refused_done : StepDone p a t f Refused (record { row = refused_row f.number; cursor = End })
  refused_done = record { rows = refl; fits = λ e. absurd (true≢false e) }

  pub image_lock : Audited p a t → is_lock t.kind ≡ true → (x : ℕ) → StepDone p a t f (Image x) (record { row = no_image_row; cursor = Window })
  image_lock j e x = record { rows = rw e; fits = λ _. j }

  module _ (x n : ℕ) (r : Range) (e : is_lock t.kind ≡ false)
      (q : ranges_of (segments_from (segment_at p a t) t x) ≡ r ∷ ranges_of (segments_from (segment_at p a t) t n)) where
    pub image_more : AtSegment p a t n → StepDone p a t f (Image x) (record { row = image_row t.kind r; cursor = Image n })
    unfolding image_rows
    image_more h = record { rows = rw (e, q); fits = λ _. h }

    pub image_last : Audited p a t → t.length ≤ n → StepDone p a t f (Image x) (record { row = image_row t.kind r; cursor = Window })
    unfolding image_rows ranges_of
    image_last j h = record { rows = rw (e, q, segments_end (segment_at p a t) t n h); fits = λ _. j }

  pub window_done : Audited p a t → StepDone p a t f Window (record { row = window_row p a t; cursor = Cut (record { at = 0; last = None; segments = 0; spans = 0 }) })
  window_done j = record { rows = refl; fits = λ _. record { here = first_segment j; segments_few = omega arith; spans_few = omega arith } }

  pub lock_done : is_lock t.kind ≡ true → (c : CutPoint) → StepDone p a t f (Cut c) (record { row = stretch_row p 1 (segment_at p a t 0).device; cursor = Foot Counts })
  lock_done e c = record { rows = rw e; fits = λ _. refl }

  module _ (c : CutPoint) (e : is_lock t.kind ≡ false) (r : AtRow p a t c) (s : Segment) (is : s ≡ segment_at p a t c.at) where
    next : segments_from (segment_at p a t) t c.at ≡ s ∷ segments_from (segment_at p a t) t (c.at + s.length)
    next = next_segments p a t r.here.job c.at r.here.cut r.here.more s is

    pub stretch_done : (device_or_none c.last ≡ s.device → ⊥) →
        StepDone p a t f (Cut c) (record { row = stretch_row p (c.spans + 1) s.device; cursor = Cut (record { at = c.at; last = Some s.device; segments = c.segments; spans = c.spans + 1 }) })
    unfolding cut_rows
    stretch_done h =
        let few = stretch_few p a t c r s is h in
        record {
          rows = rw (e, next, ne_eqb (device_or_none c.last) s.device h, eq-eqb s.device s.device refl) refl;
          fits = λ _. record { here = r.here; segments_few = r.segments_few; spans_few = rw (← is, eq-eqb s.device s.device refl) (omega arith) };
        }

    module _ (h : device_or_none c.last ≡ s.device) where
      pub segment_more : c.at + s.length < t.length →
          StepDone p a t f (Cut c) (record { row = segment_row p (c.segments + 1) s; cursor = Cut (record { at = c.at + s.length; last = c.last; segments = c.segments + 1; spans = c.spans }) })
      unfolding cut_rows
      segment_more k =
          let some = segment_some p a t r.here.job c.at r.here.cut r.here.more s is in
          let few = rw (← is, eq-eqb (device_or_none c.last) s.device h) at r.spans_few in
          record {
            rows = rw (e, next, h, eq-eqb s.device s.device refl) refl;
            fits = λ _. record {
              here = record { job = r.here.job; cut = next_cut_lem p a t r.here.job c.at r.here.cut r.here.more s is; more = k };
              segments_few = omega (arith, r.segments_few);
              spans_few = omega arith;
            };
          }

      pub segment_last : t.length ≤ c.at + s.length →
          StepDone p a t f (Cut c) (record { row = segment_row p (c.segments + 1) s; cursor = Foot Counts })
      unfolding cut_rows
      segment_last k =
          record {
            rows = rw (e, next, eq-eqb (device_or_none c.last) s.device h, segments_end (segment_at p a t) t (c.at + s.length) k) refl;
            fits = λ _. refl;
          }

-- the head, and a row of the foot
abbrev pub head_step : ℕ → Task → JobFacts → Step
head_step a t f = record { row = head_row a t; cursor = pick (eqb f.number 0) (Image 0) Refused }

-- where the row behind a row of the foot is
abbrev pub behind_foot : FootRow → Cursor
behind_foot Counts = Foot Own
behind_foot Own = Foot Below
behind_foot Below = Foot Above
behind_foot Above = Foot Locked
behind_foot Locked = Foot Rounds
behind_foot Rounds = End

abbrev pub foot_step : JobFacts → FootRow → Step
foot_step f r = record { row = foot_at f (foot_index r); cursor = behind_foot r }

module _ (p : Plan) (a : ℕ) (t : Task) (f : JobFacts) where
  pub head_done : Ready p a t f Head → StepDone p a t f Head (head_step a t f)
  head_done r = by_eqb f.number 0 (λ e q. rw e (head_admitted p a t f q r)) (λ e q. rw e (head_refused p a t f q))

  pub foot_done : (r : FootRow) → StepDone p a t f (Foot r) (foot_step f r)
  foot_done Counts = record { rows = refl; fits = λ _. refl }
  foot_done Own = record { rows = refl; fits = λ _. refl }
  foot_done Below = record { rows = refl; fits = λ _. refl }
  foot_done Above = record { rows = refl; fits = λ _. refl }
  foot_done Locked = record { rows = refl; fits = λ _. refl }
  foot_done Rounds = record { rows = refl; fits = λ q. absurd (true≢false q) }

-- the rows that are left of a job, printed
module _ (p : Plan) (a : ℕ) (t : Task) (f : JobFacts) where
  -- at the end none is
  pub none_left : (c : Cursor) → is_end c ≡ true → rows_left p a t f c ≡ []
  none_left End e = refl
  none_left Head e = absurd (false≢true e)
  none_left Refused e = absurd (false≢true e)
  none_left (Image x) e = absurd (false≢true e)
  none_left Window e = absurd (false≢true e)
  none_left (Cut c) e = absurd (false≢true e)
  none_left (Foot r) e = absurd (false≢true e)

  -- a row printed
  pub row_printed : {x y z : Page} {whole : List ℕ} {most : ℕ} (c : Cursor) (s : Step) → StepDone p a t f c s →
      PrintsPart x y whole (rows_text (rows_left p a t f c)) → Prints most y z (row_text s.row) →
      PrintsPart x z whole (rows_text (rows_left p a t f s.cursor))
  unfolding rows_text
  row_printed c s d w q = part_more (row_text s.row) (ap rows_text d.rows) w q

  -- there is one row less
  pub one_less : (c : Cursor) (s : Step) → StepDone p a t f c s → length (rows_left p a t f s.cursor) < length (rows_left p a t f c)
  one_less c s d = let e = ap length d.rows in omega (arith, e)
