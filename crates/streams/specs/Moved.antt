-- Which bytes a read or a write moved, of a reader that says which it has left and a writer that says which it holds.
use Rattle.std.specs.Prelude.{ℕ, ◌≤◌, List, [], ◌++◌, ◌≡◌, Ok, Err, length, take}
use Rattle.std.specs.declared.option.Option.{Option}
use Rattle.std.specs.declared.result.Result.{Result}
use Rattle.std.specs.Io.KnownBytes.{Appends, Consumes, IsAtEnd}
use Rattle.streams.specs.declared.Unread.{Unread}
use Rattle.streams.specs.declared.Unread.TheVariants.{TooLong, Failed}

-- a count is of all bytes that were left; what is too long filled xs; a failure leaves what had come at the front of xs
abbrev pub contents_moved : Option (List ℕ) → Option (List ℕ) → Result ℕ Unread → List ℕ → Type 0
contents_moved old new (Ok k) xs = Consumes old new (take k xs) × IsAtEnd new
contents_moved old new (Err TooLong) xs = Consumes old new xs
contents_moved old new (Err (Failed e)) xs = (k : ℕ) × (k ≤ length xs) × Consumes old new (take k xs)

-- Of a text, the front was written and the rest was not; where Whole holds, all of it was.
pub record Wrote (old new : Option (List ℕ)) (text : List ℕ) (Whole : Type 0) : Type 0 where
  pub front : List ℕ
  pub rest : List ℕ
  pub appended : Appends old new front
  pub parts : front ++ rest ≡ text
  pub all : Whole → rest ≡ []
