use Rattle.std.proofs.Common.{◌+◌, ◌*◌, ◌≤◌}
use Rattle.rows.specs.Forms.{filled}
use Rattle.rows.specs.Written.{PrintsPart}
use Rattle.rows.specs.laws.FormLaws.{left}
use Rattle.rows.proofs.push_filled.Given as goal

abbrev pub invariant-loop-byte : goal.invariant-loop-byte
invariant-loop-byte l = record {
  numbers_bound : l.k ≤ l.byte-index;
  few : l.page.end ≤ l.initial.page.end + 20 * l.byte-index;
  printed : PrintsPart l.initial.page l.page (filled l.form l.numbers) (left l.form l.numbers l.byte-index l.k);
}
