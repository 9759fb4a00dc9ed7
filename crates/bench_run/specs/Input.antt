-- What the bench does with the bytes that came: x, played from state b on, leaves state c and the kept bytes. "A line .. over 4,096
-- bytes prints '?'": of a begun line 4,097 bytes are enough to know it.
use Rattle.std.specs.Prelude.{ℕ, false, List, ◌≡◌, take, drop}
use Rattle.session.specs.AllLines.{BenchState, after_lines, lines_of, begun_line, PlayedTo}

-- lines from the first on, and then what stands behind them
abbrev pub TakenInput : List ℕ → BenchState → BenchState → List ℕ → Type 0
TakenInput x b c kept = (u : ℕ) × (PlayedTo false x b c u) × (kept ≡ take 4097 (drop u x))

-- all lines, and then the line that is begun
abbrev pub TakenWhole : List ℕ → BenchState → BenchState → List ℕ → Type 0
TakenWhole x b c kept = (c ≡ after_lines (lines_of false x) b) × (kept ≡ take 4097 (begun_line x))
