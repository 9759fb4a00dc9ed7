-- document 01, "A printed session": the lines of an input, and what they leave of manager, image and store. What they print has no
-- part here, so nothing depends on the room for it.
use Rattle.std.specs.Prelude.{ℕ, ◌≤◌, ◌<◌, Bool, false, List, [], ◌∷◌, ◌≡◌, ltb, length, take}
use Rattle.arith.specs.Cases.{pick}
use Rattle.lines.specs.Fields.{cut_at}
use Rattle.manager.specs.declared.Manager.{Manager}
use Rattle.effects.specs.Effects.{memory_of}
use Rattle.rules.specs.Memory.{Memory}
use Rattle.session.specs.Fold.{Session}
use Rattle.session.specs.Play.{played_manager, played_memory}

-- the manager, and the memory that is lent to it
pub record BenchState : Type 0 where
  pub manager : Manager
  pub memory : Memory

abbrev pub state_of : Session → BenchState
state_of s = record { manager = s.manager; memory = s.memory }

abbrev pub bench_of : Manager → List ℕ → List ℕ → BenchState
bench_of m image store = record { manager = m; memory = memory_of image store }

-- what a line leaves
abbrev pub played_on : List ℕ → BenchState → BenchState
played_on l b = record { manager = played_manager b.manager l b.memory; memory = played_memory b.manager l b.memory }

unfoldable pub after_lines : List (List ℕ) → BenchState → BenchState
after_lines [] b = b
after_lines (l ∷ ls) b = after_lines ls (played_on l b)

-- of the parts between line ends those that are lines: what stands behind the last line end is one if the input ends there and it has a byte
unfoldable pub lines_in : Bool → List (List ℕ) → List (List ℕ)
lines_in ends [] = []
lines_in ends (l ∷ []) = pick ends (pick (ltb 0 (length l)) (l ∷ []) []) []
lines_in ends (l ∷ k ∷ ls) = l ∷ lines_in ends (k ∷ ls)

-- lines end at byte 10
abbrev pub lines_of : Bool → List ℕ → List (List ℕ)
lines_of ends input = lines_in ends (cut_at 10 input)

-- the line that is begun: what stands behind the last line end
unfoldable pub begun_in : List (List ℕ) → List ℕ
begun_in [] = []
begun_in (l ∷ []) = l
begun_in (l ∷ k ∷ ls) = begun_in (k ∷ ls)

abbrev pub begun_line : List ℕ → List ℕ
begun_line input = begun_in (cut_at 10 input)

-- from state b, the lines of the first u bytes of the input were played: c is what they left
pub record PlayedTo (ends : Bool) (input : List ℕ) (b c : BenchState) (u : ℕ) : Type 0 where
  pub few : u ≤ length input
  pub state : c ≡ after_lines (lines_of ends (take u input)) b
  -- no line was torn: the last of those bytes ends a line, or the input ends with them
  pub line_end : u < length input → begun_line (take u input) ≡ []
  pub not_ended : ends ≡ false → begun_line (take u input) ≡ []
