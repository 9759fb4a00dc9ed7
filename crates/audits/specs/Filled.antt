-- The audit printed in parts: where it is, and what is promised of each part.
use Rattle.std.specs.Prelude.{Some, None, ℕ, ◌+◌, ◌≤◌, ◌<◌, Bool, true, false, List, [], ◌≡◌, ltb, leb, length}
use Rattle.arith.specs.Cases.{pick}
use Rattle.job_rows.specs.Cursors.{is_end, Fits}
use Rattle.job_rows.specs.declared.Cursor.{Cursor}
use Rattle.job_rows.specs.declared.Cursor.TheVariants.{End}
use Rattle.job_rows.specs.declared.JobFacts.{JobFacts}
use Rattle.manager.specs.declared.Manager.{Manager}
use Rattle.plan.specs.declared.records.Plan.{Plan}
use Rattle.rows.specs.Rows.{rows_text}
use Rattle.rows.specs.Written.{Written}
use Rattle.audits.specs.Audits.{JobLine, refused_facts, audit_left}
use Rattle.audits.specs.declared.fill.Filled.{Filled}
use Rattle.audits.specs.declared.fill.Place.{Place}

-- before the first row
abbrev pub first_place : Place
first_place = record { rows = 0; job = None; facts = refused_facts 0; cursor = End; next = 0 }

-- nothing is left of an input of n bytes
abbrev pub is_finished : Place → ℕ → Bool
is_finished s n = pick (ltb s.rows 300) false (pick (is_end s.cursor) (leb n s.next) false)

-- the line's rows can be gone on with
abbrev pub LineFits : Plan → JobLine → JobFacts → Cursor → Type 0
LineFits p None f c = true ≡ true
LineFits p (Some j) f c = Fits p j.area j.task f c

-- a place of the plan's rows, and a line that can be gone on with
pub record PlaceFits (m : Manager) (s : Place) : Type 0 where
  pub rows : s.rows ≤ 300
  pub line : LineFits m.plan s.job s.facts s.cursor

-- the audit of the input printed from a place on: what stands in the buffer and the rows left make up the rows there were; it stops before the end only where the next row may
-- not fit
pub record FilledTo (m : Manager) (input : List ℕ) (s : Place) (before after : List ℕ) (at : ℕ) (r : Filled) : Type 0 where
  pub written : Written before after at r.end (rows_text (audit_left m input s)) (rows_text (audit_left m input r.place))
  pub fits : PlaceFits m r.place
  pub few : r.end ≤ length after
  pub full : (audit_left m input r.place ≡ [] → ⊥) → length after < r.end + 3000
