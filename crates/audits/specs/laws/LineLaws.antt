-- The lines of an input, one at a time.
use Rattle.std.specs.Prelude.{ℕ, ◌+◌, ◌≤◌, ◌<◌, true, false, List, [], ◌∷◌, ◌≡◌, refl, length}
use Rattle.std.proofs.Common.{true≢false, ap, ◌∙◌, arith, lt-ltb, length-take, length-drop}
use Rattle.std.proofs.Math.ListN.{drop_of_length-le}
use Rattle.arith.specs.Cases.{by_leb}
use Rattle.lines.specs.Fields.{cut_at, cut_from, is_last}
use Rattle.lines.specs.laws.FieldLaws.{word, fields_all, fields_past, more_fields}
use Rattle.session.specs.AllLines.{lines_in, lines_of}
use Rattle.audits.specs.Audits.{job_in, lines_from}
use Rattle.audits.specs.declared.JobAt.{JobAt}

-- the job of the first of them
pub record NextJob (input : List ℕ) (at devices : ℕ) (r : JobAt) : Type 0 where
  pub line : List ℕ
  pub lines : lines_from input at ≡ line ∷ lines_from input r.next
  pub job : r.job ≡ job_in devices line
  pub further : at < r.next

pub lines_all : (input : List ℕ) → lines_from input 0 ≡ lines_of true input
lines_all input = ap (lines_in true) (fields_all 10 input)

-- a line end follows
more_lines : (w : List ℕ) (g : List (List ℕ)) → is_last g ≡ false → lines_in true (w ∷ g) ≡ w ∷ lines_in true g
unfolding lines_in
more_lines w [] e = absurd (true≢false e)
more_lines w (k ∷ ls) e = refl

-- the last line has no line end, and a byte
last_line : (w : List ℕ) → 0 < length w → lines_in true (w ∷ []) ≡ w ∷ lines_in true []
unfolding lines_in
last_line w h = rw (lt-ltb _ _ h)

pub lines_next : (input : List ℕ) (at to : ℕ) → at < length input → at ≤ to → to ≤ length input →
    cut_from 10 input at ≡ word input at to ∷ cut_from 10 input (to + 1) → lines_from input at ≡ word input at to ∷ lines_from input (to + 1)
lines_next input at to h k l e =
    ap (lines_in true) e
    ∙ by_leb (to + 1) (length input)
    (λ _ q. more_lines (word input at to) (cut_from 10 input (to + 1)) (more_fields 10 input (to + 1) q))
    (λ _ q. rw (fields_past 10 input (to + 1) q) (last_line (word input at to) (some q)))
  where
    some : length input < to + 1 → 0 < length (word input at to)
    some q = simp (length-take, length-drop) (omega arith)

-- behind the last byte there is none
pub lines_none : (input : List ℕ) (at : ℕ) → length input ≤ at → lines_from input at ≡ []
lines_none input at h =
    by_leb at (length input)
    (λ e _. unfold cut_from cut_at lines_in in rw (e, drop_of_length-le input h))
    (λ _ q. rw (fields_past 10 input at q) (unfold lines_in in refl))
