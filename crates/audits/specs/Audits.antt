-- The audit of a plan and a list of jobs: which jobs the lines of the input are, and what is known of each.
use Rattle.std.specs.Prelude.{ℕ, Option, Some, None, ◌-◌, min, true, false, List, [], ◌∷◌, ◌++◌, eqb}
use Rattle.arith.specs.Cases.{pick}
use Rattle.figures.specs.Figures.{bounds_of}
use Rattle.job_rows.specs.Cursors.{rows_left, is_end}
use Rattle.job_rows.specs.JobRows.{too_large, job_rows}
use Rattle.job_rows.specs.declared.Cursor.{Cursor}
use Rattle.job_rows.specs.declared.JobFacts.{JobFacts}
use Rattle.lines.specs.Fields.{cut_from}
use Rattle.lines.specs.Lines.{line_of}
use Rattle.lines.specs.declared.Line.{Line}
use Rattle.lines.specs.declared.Line.TheVariants.{Call, Info, Round}
use Rattle.manager.specs.Calls.{job_number_of}
use Rattle.manager.specs.declared.Manager.{Manager}
use Rattle.memory.specs.declared.Task.{Task}
use Rattle.plan.specs.declared.records.Plan.{Plan}
use Rattle.plan_rows.specs.PlanRows.{plan_rows_from, plan_rows}
use Rattle.rows.specs.Rows.{row_of}
use Rattle.rows.specs.declared.Form.TheVariants.{OfJob}
use Rattle.rows.specs.declared.JobForm.TheVariants as Head
use Rattle.rows.specs.declared.Row.{Row}
use Rattle.rules.specs.statements.JobSets.{AreaJob, jobs_above, any_locks}
use Rattle.session.specs.AllLines.{lines_in, lines_of}
use Rattle.session.specs.declared.play.PlainCall.{PlainCall}
use Rattle.session.specs.declared.play.PlainCall.TheVariants as Plain
use Rattle.session.specs.laws.PlayLaws.{plain_of}
use Rattle.audits.specs.declared.ListedJob.{ListedJob}
use Rattle.audits.specs.declared.fill.Place.{Place}

-- the job of a line, if it is one
abbrev pub JobLine : Type 0
JobLine = Option ListedJob

-- "type area address length" is a job; every other line, also a release, a cancel, job info or a round, is none
abbrev pub job_of_call : PlainCall → JobLine
job_of_call (Plain.Job a t) = Some (record { area = a; task = t })
job_of_call (Plain.Release t) = None
job_of_call (Plain.Cancel a) = None

abbrev pub job_of_line : Option Line → JobLine
job_of_line (Some (Call x)) = job_of_call (plain_of x)
job_of_line None = None
job_of_line (Some (Info a)) = None
job_of_line (Some (Round a b c d)) = None

-- the job of a line's bytes, for a plan with so many devices
abbrev pub job_in : ℕ → List ℕ → JobLine
job_in devices l = job_of_line (line_of devices l)

abbrev pub with_job : JobLine → List AreaJob → List AreaJob
with_job None js = js
with_job (Some j) js = record { area = j.area; task = j.task } ∷ js

-- the jobs of the lines
unfoldable pub jobs_in : ℕ → List (List ℕ) → List AreaJob
jobs_in devices [] = []
jobs_in devices (l ∷ ls) = with_job (job_in devices l) (jobs_in devices ls)

-- What is known of a job of area a, where the list has the jobs js: the number that the manager answers, and if that is 0, its bounds and what the list can
-- add to its wait.
abbrev pub refused_facts : ℕ → JobFacts
refused_facts n = record { number = n; bounds = record { own = 0; below = 0; segments = 0; spans = 0 }; above = 0; locks = false }

abbrev pub accepted_facts : Manager → List AreaJob → ℕ → Task → JobFacts
accepted_facts m js a t =
    record {
      number = 0;
      bounds = bounds_of m.plan a t;
      above = min (jobs_above m.plan a js) too_large;
      locks = any_locks m.plan a js;
    }

unfoldable pub facts_of : Manager → List AreaJob → ℕ → Task → JobFacts
facts_of m js a t = pick (eqb (job_number_of m a t) 0) (accepted_facts m js a t) (refused_facts (job_number_of m a t))

-- "?" for a line that is no job
abbrev pub unreadable_row : Row
unreadable_row = row_of (OfJob Head.Unreadable) 0 0 0 0 0 0 0 0

-- the lines from byte `at` of the input on
abbrev pub lines_from : List ℕ → ℕ → List (List ℕ)
lines_from input at = lines_in true (cut_from 10 input at)

-- what is said of a line
abbrev pub rows_of_job : Manager → List AreaJob → JobLine → List Row
rows_of_job m js None = unreadable_row ∷ []
rows_of_job m js (Some j) = job_rows m.plan j.area j.task (facts_of m js j.area j.task)

unfoldable pub rows_of_lines : Manager → List AreaJob → List (List ℕ) → List Row
rows_of_lines m js [] = []
rows_of_lines m js (l ∷ ls) = rows_of_job m js (job_in m.plan.device_count l) ++ rows_of_lines m js ls

-- the whole audit of the manager of an accepted load: its plan, and each line, with the jobs of all lines as the list
abbrev pub audit_rows : Manager → List (List ℕ) → List Row
audit_rows m ls = plan_rows m.plan ++ rows_of_lines m (jobs_in m.plan.device_count ls) ls

-- the rows of a line that are still to be printed
abbrev pub line_left : Plan → JobLine → JobFacts → Cursor → List Row
line_left p None f c = pick (is_end c) [] (unreadable_row ∷ [])
line_left p (Some j) f c = rows_left p j.area j.task f c

-- those of the whole audit: of the plan, of the line in work, and of the lines behind it
abbrev pub audit_left : Manager → List ℕ → Place → List Row
audit_left m input s =
    plan_rows_from m.plan (300 - s.rows) s.rows
    ++ (line_left m.plan s.job s.facts s.cursor
    ++ rows_of_lines m (jobs_in m.plan.device_count (lines_of true input)) (lines_from input s.next))
