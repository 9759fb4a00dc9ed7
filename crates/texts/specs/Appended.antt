-- A text written behind what stands in a buffer.
use Rattle.std.specs.Prelude.{ℕ, ◌+◌, ◌≡◌, List, ◌++◌, length, take}

-- the first `at` bytes of `before` and then the text are the first `end` bytes of `after`, which is as long as `before`
pub record Appended (before after : List ℕ) (at end : ℕ) (text : List ℕ) : Type 0 where
  pub bytes : take end after ≡ take at before ++ text
  pub ends : end ≡ at + length text
  pub long : length after ≡ length before
