use Rattle.std.proofs.Common.{length, ◌≡◌, List, ℕ, ◌++◌}
use Rattle.std.specs.Prelude.{true}
use Rattle.std.specs.Io.KnownBytes.{Appends}
use Rattle.rows.specs.Rows.{rows_text}
use Rattle.session.specs.AllLines.{lines_of}
use Rattle.audits.specs.Audits.{audit_rows, audit_left}
use Rattle.audits.specs.Filled.{PlaceFits}
use Rattle.audit_run.proofs.write_rows.Given as goal

-- what was written, and the rows that are left, make up the audit
abbrev pub invariant-loop : goal.invariant-loop
invariant-loop g l = PlaceFits l.manager l.place
    × (length l.out ≡ length l.initial.out)
    × (bs : List ℕ)
    × Appends (g.W.Write.contents l.initial.writer) (g.W.Write.contents l.writer) bs
    × (bs ++ rows_text (audit_left l.manager l.input l.place) ≡ rows_text (audit_rows l.manager (lines_of true l.input)))
