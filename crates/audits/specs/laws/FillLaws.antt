-- The audit printed, as far as its rows have room.
use Rattle.std.specs.Prelude.{Some, None, ℕ, ◌+◌, ◌-◌, ◌≤◌, ◌<◌, true, false, List, [], ◌∷◌, ◌++◌, ◌⊎◌, ◌≡◌, refl, length, take}
use Rattle.std.proofs.Common.{true≢false, append_assoc, ⊎_elim, sym, ap, ◌∙◌, arith, leb-true, length-append}
use Rattle.std.proofs.lemmas.Bool.{false≢true}
use Rattle.arith.specs.Cases.{by_bool, by_ltb, by_eqb}
use Rattle.job_rows.specs.Cursors.{is_end}
use Rattle.job_rows.specs.declared.Cursor.{Cursor}
use Rattle.job_rows.specs.declared.Cursor.TheVariants.{Head, End}
use Rattle.job_rows.specs.declared.JobFacts.{JobFacts}
use Rattle.job_rows.specs.laws.JobRowLaws.{none_left}
use Rattle.manager.specs.Calls.{job_number_of}
use Rattle.manager.specs.declared.Manager.{Manager}
use Rattle.memory.specs.declared.Task.{Task}
use Rattle.plan.specs.declared.records.Plan.{Plan}
use Rattle.plan_rows.specs.PlanRows.{plan_rows_from, plan_rows}
use Rattle.rows.specs.Rows.{row_text, rows_text}
use Rattle.rows.specs.Written.{Written, PrintsPart}
use Rattle.rows.specs.declared.Row.{Row}
use Rattle.rows.specs.laws.WrittenLaws.{part_none, part_more, part_on}
use Rattle.rules.specs.statements.JobSets.{AreaJob}
use Rattle.session.specs.AllLines.{lines_of}
use Rattle.texts.specs.Pages.{Prints, room}
use Rattle.texts.specs.declared.page.Page.{Page}
use Rattle.audits.specs.Audits.{JobLine, jobs_in, refused_facts, facts_of, unreadable_row, lines_from, rows_of_job, rows_of_lines, audit_rows, line_left, audit_left}
use Rattle.audits.specs.Filled.{first_place, is_finished, LineFits, PlaceFits}
use Rattle.audits.specs.declared.JobAt.{JobAt}
use Rattle.audits.specs.declared.fill.Place.{Place}
use Rattle.audits.specs.laws.LineLaws.{NextJob, lines_all, lines_none}
use Rattle.audits.specs.laws.LoadLaws.{Loaded, audited}

-- what is known of a line: of one that is no job nothing
abbrev pub line_facts : Manager → List AreaJob → JobLine → JobFacts
line_facts m js None = refused_facts 0
line_facts m js (Some j) = facts_of m js j.area j.task

-- the rows of a line printed from a cursor on, up to the next one: it stops early only where that may not fit
pub record LineDone (p : Plan) (j : JobLine) (f : JobFacts) (c : Cursor) (before after : Page) (left : Cursor) : Type 0 where
  pub printed : PrintsPart before after (rows_text (line_left p j f c)) (rows_text (line_left p j f left))
  pub fits : LineFits p j f left
  pub full : is_end left ≡ false → room after < 3000

-- at the start all of the audit is left
pub all_left : (m : Manager) (input : List ℕ) → audit_left m input first_place ≡ audit_rows m (lines_of true input)
all_left m input =
    ap (λ ls. plan_rows m.plan ++ rows_of_lines m (jobs_in m.plan.device_count (lines_of true input)) ls) (lines_all input)

-- rows one behind the other
text_append : (a b : List Row) → rows_text (a ++ b) ≡ rows_text a ++ rows_text b
unfolding rows_text
text_append [] b = refl
text_append (r ∷ a) b = rw (text_append a b) (sym (append_assoc (row_text r) (rows_text a) (rows_text b)))

-- with more rows behind them
pub written_before : {a b : List ℕ} {i j : ℕ} (whole rest more : List Row) →
    Written a b i j (rows_text whole) (rows_text rest) → Written a b i j (rows_text (whole ++ more)) (rows_text (rest ++ more))
written_before {a} {b} {i} {j} whole rest more w =
    rw (text_append whole more, text_append rest more)
    (record {
      bytes = sym (append_assoc (take j b) (rows_text rest) (rows_text more)) ∙ ap (λ l. l ++ rows_text more) w.bytes ∙ append_assoc (take i a) (rows_text whole) (rows_text more);
      ends = let e = w.ends in simp length-append (omega (arith, e));
      long = w.long;
    })

pub part_before : {x y : Page} (whole rest more : List Row) →
    PrintsPart x y (rows_text whole) (rows_text rest) → PrintsPart x y (rows_text (whole ++ more)) (rows_text (rest ++ more))
part_before whole rest more w = record { same_buffer = w.same_buffer; written = written_before whole rest more w.written }

-- equal rows
pub part_same : {x y : Page} {a b c d : List Row} → a ≡ c → b ≡ d → PrintsPart x y (rows_text a) (rows_text b) → PrintsPart x y (rows_text c) (rows_text d)
part_same e f w = rw (e, f) at w

-- the lines behind byte `at`, where all lines are the list
abbrev pub behind : Manager → List ℕ → ℕ → List Row
behind m input at = rows_of_lines m (jobs_in m.plan.device_count (lines_of true input)) (lines_from input at)

-- behind the plan's rows
pub lines_left : (m : Manager) (input : List ℕ) (s : Place) → s.rows ≡ 300 →
    audit_left m input s ≡ line_left m.plan s.job s.facts s.cursor ++ behind m input s.next
unfolding plan_rows_from
lines_left m input s e = ap (λ k. plan_rows_from m.plan (300 - k) k ++ (line_left m.plan s.job s.facts s.cursor ++ behind m input s.next)) e

-- a line that is over has no row left
line_over : (p : Plan) (j : JobLine) (f : JobFacts) (c : Cursor) → is_end c ≡ true → line_left p j f c ≡ []
line_over p None f c e = rw e
line_over p (Some j) f c e = none_left p j.area j.task f c e

-- one that begins has all
line_all : (m : Manager) (js : List AreaJob) (j : JobLine) → rows_of_job m js j ≡ line_left m.plan j (line_facts m js j) Head
line_all m js None = refl
line_all m js (Some j) = refl

-- the next line
pub next_left : (m : Manager) (input : List ℕ) (at : ℕ) (r : JobAt) → NextJob input at m.plan.device_count r → (j : JobLine) (f : JobFacts) (c : Cursor) → is_end c ≡ true →
    (g : JobFacts) → g ≡ line_facts m (jobs_in m.plan.device_count (lines_of true input)) r.job →
    line_left m.plan j f c ++ behind m input at ≡ line_left m.plan r.job g Head ++ behind m input r.next
unfolding rows_of_lines
next_left m input at r n j f c e g q =
    rw (line_over m.plan j f c e, n.lines, ← n.job, q)
    (ap (λ l. l ++ behind m input r.next) (line_all m (jobs_in m.plan.device_count (lines_of true input)) r.job))

-- behind the last line nothing is left
pub all_printed : (m : Manager) (input : List ℕ) (s : Place) → s.rows ≡ 300 → is_end s.cursor ≡ true → length input ≤ s.next → audit_left m input s ≡ []
unfolding rows_of_lines
all_printed m input s e f h = lines_left m input s e ∙ rw (line_over m.plan s.job s.facts s.cursor f, lines_none input s.next h)

-- the facts of a job have the number that the manager answers
facts_number : (m : Manager) (js : List AreaJob) (a : ℕ) (t : Task) → (facts_of m js a t).number ≡ 0 → job_number_of m a t ≡ 0
unfolding facts_of
facts_number m js a t e = by_eqb (job_number_of m a t) 0 (λ _ q. q) (λ g _. rw g at e)

-- so the rows of a line can be begun
pub line_begins : (m : Manager) → Loaded m → (js : List AreaJob) (j : JobLine) (f : JobFacts) → f ≡ line_facts m js j → LineFits m.plan j f Head
line_begins m l js None f q = refl
line_begins m l js (Some j) f q = λ _ e. audited m l j.area j.task (facts_number m js j.area j.task (sym (ap (λ x. x.number) q) ∙ e))

-- a line that is no job, printed
module _ (p : Plan) (f : JobFacts) (c : Cursor) {x : Page} where
  pub unreadable_over : is_end c ≡ true → LineDone p None f c x x c
  unreadable_over e = record { printed = part_none x _; fits = refl; full = λ g. absurd (true≢false (sym e ∙ g)) }

  pub unreadable_full : room x < 3000 → LineDone p None f c x x c
  unreadable_full h = record { printed = part_none x _; fits = refl; full = λ _. h }

  pub unreadable_printed : {y : Page} {most : ℕ} → is_end c ≡ false → Prints most x y (row_text unreadable_row) → LineDone p None f c x y End
  unfolding rows_text
  unreadable_printed e q =
      record {
        printed = part_more (row_text unreadable_row) (rw e refl) (part_none x (rows_text (line_left p None f c))) q;
        fits = refl;
        full = λ g. absurd (true≢false g);
      }

-- the audit of the input printed from place s on, up to place r: it stops before the end only where the next row may not fit
pub record FilledOn (m : Manager) (input : List ℕ) (s : Place) (before after : Page) (r : Place) : Type 0 where
  pub printed : PrintsPart before after (rows_text (audit_left m input s)) (rows_text (audit_left m input r))
  pub fits : PlaceFits m r
  pub full : (audit_left m input r ≡ [] → ⊥) → room after < 3000

-- the lines being printed, from place s on, up to place r, whose line is in work
pub record Filling (m : Manager) (input : List ℕ) (s : Place) (before after : Page) (r : Place) : Type 0 where
  pub rows : r.rows ≡ 300
  pub line : LineFits m.plan r.job r.facts r.cursor
  pub full : is_end r.cursor ≡ false → room after < 3000
  pub printed : PrintsPart before after (rows_text (audit_left m input s)) (rows_text (audit_left m input r))

module _ (m : Manager) (input : List ℕ) (s : Place) {before : Page} where
  -- where nothing is printed yet
  pub filling_first : PlaceFits m s → s.rows ≡ 300 → (is_end s.cursor ≡ false → room before < 3000) → Filling m input s before before s
  filling_first f e h = record { rows = e; line = f.line; full = h; printed = part_none before _ }

  -- the next line
  pub filling_next : {mid after : Page} (r : Place) → Filling m input s before mid r → (n : JobAt) → NextJob input r.next m.plan.device_count n → is_end r.cursor ≡ true →
      (g : JobFacts) → g ≡ line_facts m (jobs_in m.plan.device_count (lines_of true input)) n.job → (c : Cursor) →
      LineDone m.plan n.job g Head mid after c →
      Filling m input s before after (record { rows = r.rows; job = n.job; facts = g; cursor = c; next = n.next })
  filling_next r k n h over g q c d =
      let there : Place = record { rows = r.rows; job = n.job; facts = g; cursor = c; next = n.next } in
      let begins = lines_left m input r k.rows ∙ next_left m input r.next n h r.job r.facts r.cursor over g q in
      let more = part_before (line_left m.plan n.job g Head) (line_left m.plan n.job g c) (behind m input n.next) d.printed in
      record { rows = k.rows; line = d.fits; full = d.full; printed = part_on k.printed (part_same (sym begins) (sym (lines_left m input there k.rows)) more) }

  -- the page is full, or the lines are at their end
  pub filling_stops : {after : Page} (r : Place) → Filling m input s before after r → (is_end r.cursor ≡ false) ⊎ (length input ≤ r.next) →
      FilledOn m input s before after r
  filling_stops r k stops =
      record {
        printed = k.printed;
        fits = record { rows = let e = k.rows in omega arith; line = k.line };
        full = λ u.
            ⊎_elim
            (λ g. k.full g)
            (λ g. by_bool (is_end r.cursor) (λ over. absurd (u (all_printed m input r k.rows over g))) (λ left. k.full left))
            stops;
      }

-- the plan's rows, then the line in work, then the others
module _ (m : Manager) (input : List ℕ) (s : Place) (f : PlaceFits m s) {before mid : Page} (n : ℕ)
    (w : PrintsPart before mid (rows_text (plan_rows_from m.plan (300 - s.rows) s.rows)) (rows_text (plan_rows_from m.plan (300 - n) n))) where
  abbrev there : Cursor → Place
  there c = record { rows = n; job = s.job; facts = s.facts; cursor = c; next = s.next }

  plan_part : PrintsPart before mid (rows_text (audit_left m input s)) (rows_text (audit_left m input (there s.cursor)))
  plan_part =
      part_before (plan_rows_from m.plan (300 - s.rows) s.rows) (plan_rows_from m.plan (300 - n) n) (line_left m.plan s.job s.facts s.cursor ++ behind m input s.next) w

  -- the plan's rows fill the page
  pub plan_stops : n < 300 → room mid < 3000 → FilledOn m input s before mid (there s.cursor)
  plan_stops h full = record { printed = plan_part; fits = record { rows = omega arith; line = f.line }; full = λ _. full }

  -- they do not
  pub plan_passes : n ≡ 300 → {after last : Page} (c : Cursor) → LineDone m.plan s.job s.facts s.cursor mid after c → (q : Place) →
      FilledOn m input (there c) after last q → FilledOn m input s before last q
  plan_passes e c d q t =
      let more = part_before (line_left m.plan s.job s.facts s.cursor) (line_left m.plan s.job s.facts c) (behind m input s.next) d.printed in
      let line = part_same (sym (lines_left m input (there s.cursor) e)) (sym (lines_left m input (there c) e)) more in
      record { printed = part_on (part_on plan_part line) t.printed; fits = t.fits; full = t.full }

-- what is finished has no row left
pub finished_all : (m : Manager) (input : List ℕ) (s : Place) → PlaceFits m s → is_finished s (length input) ≡ true → audit_left m input s ≡ []
finished_all m input s f e =
    by_ltb s.rows 300
    (λ g _. absurd (false≢true (rw g at e)))
    (λ g h.
    by_bool (is_end s.cursor)
    (λ u. all_printed m input s (omega (arith, f.rows)) u (leb-true (length input) s.next (rw (g, u) at e)))
    (λ u. absurd (false≢true (rw (g, u) at e))))
