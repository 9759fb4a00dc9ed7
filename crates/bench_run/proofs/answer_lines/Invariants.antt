use Rattle.std.proofs.Common.{◌-◌, ◌≤◌, length, ◌≡◌, take}
use Rattle.std.specs.Io.KnownBytes.{Appends}
use Rattle.session.specs.AllLines.{bench_of, lines_of, PlayedTo}
use Rattle.bench_run.specs.Texts.{text_of_lines}
use Rattle.bench_run.proofs.answer_lines.Given as goal

-- the lines up to `at` were played, and what they print was written
abbrev pub invariant-loop-at : goal.invariant-loop-at
invariant-loop-at g l = (l.at ≤ length l.input)
    × (length l.image ≡ length l.initial.image)
    × (length l.store ≡ length l.initial.store)
    × (length l.out ≡ length l.initial.out)
    × (PlayedTo l.ends l.input (bench_of l.initial.next l.initial.image l.initial.store) (bench_of l.next l.image l.store) l.at)
    × Appends (g.W.Write.contents l.initial.writer) (g.W.Write.contents l.writer) (text_of_lines (lines_of l.ends (take l.at l.input)) (bench_of l.initial.next l.initial.image l.initial.store))

abbrev pub decreases-loop-at : goal.decreases-loop-at
decreases-loop-at g l = length l.input - l.at
