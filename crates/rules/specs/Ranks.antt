-- Who is above whom: priorities, and among equal ones the order of acceptance.
use Rattle.std.specs.Prelude.{ℕ, ◌+◌, Bool, ◌&&◌, ◌||◌, ltb, eqb}
use Rattle.arith.specs.Cases.{pick}

-- Document 02, 01: "the order in which pending jobs were accepted". An area's age is the number of other areas that had a job accepted
-- since its own latest one. A job of area a is accepted: a is the youngest, and those that were younger than a are one older.
abbrev pub older : ℕ → ℕ → ℕ
older accepted age = pick (ltb age accepted) (age + 1) age

unfoldable pub ages_after : ℕ → (ℕ → ℕ) → ℕ → ℕ
ages_after a ages b = pick (eqb b a) 0 (older (ages a) (ages b))

-- "the larger priority is above"; document 02, 01: "Areas of equal priority shall be ranked by acceptance: the earlier accepted job is
-- above." An area with a priority and an age, and another.
unfoldable pub rank_above : ℕ → ℕ → ℕ → ℕ → Bool
rank_above priority age other-priority other-age = ltb other-priority priority || (eqb other-priority priority && ltb other-age age)

-- area a ranks above area b
abbrev pub ranks_above : (ℕ → ℕ) → (ℕ → ℕ) → ℕ → ℕ → Bool
ranks_above priority ages a b = rank_above (priority a) (ages a) (priority b) (ages b)
