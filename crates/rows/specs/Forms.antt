-- A form: a text with "#" where its numbers stand.
use Prim.Native.Char.{code}
use Rattle.std.specs.Prelude.{ℕ, List, [], ◌∷◌, ◌++◌, eqb, get_or, drop}
use Prim.Native.String.{String, len, char_at}
use Rattle.arith.specs.Cases.{pick}
use Rattle.arith.specs.Listed.{listed}
use Rattle.texts.specs.Texts.{decimal}

-- the bytes of a text, each of whose characters is one byte
abbrev pub bytes_in : String → List ℕ
bytes_in s = listed (λ i. code (char_at s i)) 0 (len s)

-- the form with its numbers, in their order; "#" is 35
unfoldable pub filled : List ℕ → List ℕ → List ℕ
filled [] numbers = []
filled (b ∷ form) numbers = pick (eqb b 35) (decimal (get_or numbers 0 0) ++ filled form (drop 1 numbers)) (b ∷ filled form numbers)
