-- What lines print, one after the other, and what a session prints.
use Rattle.std.specs.Prelude.{ℕ, true, List, [], ◌∷◌, ◌++◌, replicate}
use Rattle.arith.specs.Cases.{pick}
use Rattle.manager.specs.Load.{loaded_manager}
use Rattle.session.specs.AllLines.{BenchState, bench_of, lines_of, played_on}
use Rattle.session.specs.Fold.{is_empty}
use Rattle.session.specs.PlanText.{plan_text, image_length_of}
use Rattle.session.specs.Play.{played_text}

unfoldable pub text_of_lines : List (List ℕ) → BenchState → List ℕ
text_of_lines [] b = []
text_of_lines (l ∷ ls) b = played_text b.manager l b.memory ++ text_of_lines ls (played_on l b)

-- "image all 255", as many as the devices have bytes together, and "store 65,536 zeros"
abbrev pub first_bench : List ℕ → BenchState
first_bench plan = bench_of (loaded_manager plan) (replicate (image_length_of 65536 plan) 255) (replicate 65536 0)

-- all that a session over a plan prints: the plan's text, or else that of the lines
unfoldable pub bench_text : List ℕ → List ℕ → List ℕ
bench_text plan input = pick (is_empty (plan_text plan)) (text_of_lines (lines_of true input) (first_bench plan)) (plan_text plan)
