-- What a turn of the bench does with its bytes: those that were kept and those that it read.
use Rattle.std.specs.Prelude.{ℕ, Bool, true, false, List, ◌≡◌}
use Rattle.std.specs.declared.option.Option.{Option}
use Rattle.std.specs.Io.KnownBytes.{Appends}
use Rattle.streams.specs.Moved.{Wrote}
use Rattle.session.specs.AllLines.{BenchState, lines_of}
use Rattle.bench_run.specs.Input.{TakenWhole}
use Rattle.bench_run.specs.Texts.{text_of_lines}

-- x from state b on: a front of what its lines print was written, the writer's bytes being `old` and then `new`; where the input goes on, the lines that have an end were all played and all
-- that they print was written
pub record TookTurn (x : List ℕ) (b c : BenchState) (old new : Option (List ℕ)) (is_open : Bool) (kept : List ℕ) : Type 0 where
  pub written : Wrote old new (text_of_lines (lines_of true x) b) ⊥
  pub goes_on : is_open ≡ true → Appends old new (text_of_lines (lines_of false x) b) × TakenWhole x b c kept
