use Rattle.std.proofs.Common.{◌≤◌, length, ◌≡◌, ℕ, List, false, take}
use Rattle.std.specs.Io.KnownBytes.{Appends, Consumes}
use Rattle.session.specs.AllLines.{bench_of, after_lines, lines_of, begun_line}
use Rattle.bench_run.specs.Texts.{text_of_lines}
use Rattle.bench_run.proofs.serve.Given as goal

-- the lines of what came that have an end were played and printed, and the line that is begun is kept
abbrev pub invariant-loop : goal.invariant-loop
invariant-loop g l = (l.kept ≤ 4097)
    × (length l.input ≡ length l.initial.input)
    × (length l.out ≡ length l.initial.out)
    × (338 ≤ length l.initial.out → (came : List ℕ)
    × Consumes (g.R.Read.remaining l.initial.reader) (g.R.Read.remaining l.reader) came
    × Appends (g.W.Write.contents l.initial.writer) (g.W.Write.contents l.writer) (text_of_lines (lines_of false came) (bench_of l.initial.next l.initial.image l.initial.store))
    × (bench_of l.next l.image l.store ≡ after_lines (lines_of false came) (bench_of l.initial.next l.initial.image l.initial.store))
    × (take l.kept l.input ≡ take 4097 (begun_line came)))
