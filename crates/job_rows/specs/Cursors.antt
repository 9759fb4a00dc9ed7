-- How far the rows of a job are printed.
use Rattle.std.specs.Prelude.{ℕ, ◌+◌, ◌≤◌, ◌<◌, Bool, true, false, List, [], ◌∷◌, ◌++◌, ◌≡◌, eqb, drop}
use Rattle.arith.specs.Cases.{pick}
use Rattle.figures.specs.Figures.{Audited, device_or_none}
use Rattle.figures.specs.Ranges.{ranges_of}
use Rattle.memory.specs.declared.Task.{Task}
use Rattle.plan.specs.declared.records.Plan.{Plan}
use Rattle.rows.specs.declared.Row.{Row}
use Rattle.segment.specs.Segments.{is_lock, segment_at, segments_from}
use Rattle.segment.specs.laws.CutLaws as Cuts
use Rattle.job_rows.specs.JobRows.{refused_row, image_rows, no_image_row, window_row, stretch_row, cut_rows, foot_rows, segment_rows, job_rows}
use Rattle.job_rows.specs.declared.Cursor.{Cursor}
use Rattle.job_rows.specs.declared.Cursor.TheVariants.{Head, Refused, Image, Window, Cut, Foot, End}
use Rattle.job_rows.specs.declared.CutPoint.{CutPoint}
use Rattle.job_rows.specs.declared.Foot.{Foot as FootRow}
use Rattle.job_rows.specs.declared.Foot.TheVariants.{Counts, Own, Below, Above, Locked, Rounds}
use Rattle.job_rows.specs.declared.JobFacts.{JobFacts}

-- the place of a row of the foot
abbrev pub foot_index : FootRow → ℕ
foot_index Counts = 0
foot_index Own = 1
foot_index Below = 2
foot_index Above = 3
foot_index Locked = 4
foot_index Rounds = 5

-- the rows that are still to be printed
abbrev pub rows_left : Plan → ℕ → Task → JobFacts → Cursor → List Row
rows_left p a t f Head = job_rows p a t f
rows_left p a t f Refused = refused_row f.number ∷ []
rows_left p a t f (Image x) =
    pick (is_lock t.kind) (no_image_row ∷ []) (image_rows t.kind (ranges_of (segments_from (segment_at p a t) t x)))
    ++ (window_row p a t ∷ (segment_rows p a t ++ foot_rows f))
rows_left p a t f Window = window_row p a t ∷ (segment_rows p a t ++ foot_rows f)
rows_left p a t f (Cut c) =
    pick (is_lock t.kind)
    (stretch_row p 1 (segment_at p a t 0).device ∷ [])
    (cut_rows p (device_or_none c.last) c.segments c.spans (segments_from (segment_at p a t) t c.at))
    ++ foot_rows f
rows_left p a t f (Foot r) = drop (foot_index r) (foot_rows f)
rows_left p a t f End = []

-- at a cut before the job's end
pub record AtSegment (p : Plan) (a : ℕ) (t : Task) (x : ℕ) : Type 0 where
  pub job : Audited p a t
  pub cut : Cuts.Cut (segment_at p a t) t x
  pub more : x < t.length

-- so many segments and stretches stand before the segment there; where that is on the last stretch's device, its stretch is among them
pub record AtRow (p : Plan) (a : ℕ) (t : Task) (c : CutPoint) : Type 0 where
  pub here : AtSegment p a t c.at
  pub segments_few : c.segments ≤ c.at
  pub spans_few : c.spans ≤ c.segments + pick (eqb (device_or_none c.last) (segment_at p a t c.at).device) 1 0

-- where a row is left
abbrev pub Ready : Plan → ℕ → Task → JobFacts → Cursor → Type 0
Ready p a t f Head = f.number ≡ 0 → Audited p a t
Ready p a t f Refused = true ≡ true
Ready p a t f (Image x) = AtSegment p a t x
Ready p a t f Window = Audited p a t
Ready p a t f (Cut c) = AtRow p a t c
Ready p a t f (Foot r) = true ≡ true
Ready p a t f End = ⊥

abbrev pub is_end : Cursor → Bool
is_end End = true
is_end Head = false
is_end Refused = false
is_end (Image x) = false
is_end Window = false
is_end (Cut c) = false
is_end (Foot r) = false

-- or none is
abbrev pub Fits : Plan → ℕ → Task → JobFacts → Cursor → Type 0
Fits p a t f c = is_end c ≡ false → Ready p a t f c
