-- The manager's array of ages (document 02, 01: "the order in which pending jobs were accepted"; `ages_after` in rules/Ranks).
use Rattle.std.specs.Prelude.{ℕ, List, [], ◌∷◌, ltb, get_or}
use Rattle.arith.specs.Cases.{pick}

-- before any acceptance
abbrev pub first_ages : List ℕ
first_ages = 0 ∷ 1 ∷ 2 ∷ 3 ∷ 4 ∷ 5 ∷ 6 ∷ 7 ∷ []

-- the age of area a; one that the array has no room for keeps its first
unfoldable pub age_in : List ℕ → ℕ → ℕ
age_in l a = pick (ltb a 8) (get_or l a 0) a
