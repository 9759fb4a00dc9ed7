-- document 02, 05: wear in numbers
use Rattle.std.specs.Prelude.{ℕ, zero, suc, ◌+◌, ◌*◌, ◌/◌, ◌%◌, ◌≤◌, min, List, eqb, ltb, get_or, set}
use Rattle.arith.specs.Cases.{pick}
use Rattle.wear.specs.declared.Worn.{Worn}

-- "Each done erase adds the number of sectors in its piece": of a segment of this length. A sector of no bytes is in none: n / 0 is 0.
unfoldable pub sectors_in : ℕ → ℕ → ℕ
sectors_in length sector = length / sector

-- "to the sub-area's wear sum, which sticks at 4,294,967,295"
abbrev pub most_wear : ℕ
most_wear = 4294967295

unfoldable pub worn_to : ℕ → ℕ → ℕ
worn_to sum sectors = min (sum + sectors) most_wear

-- what an answer that wears nothing wears: the manager has 32 sums, and none of them is meant
abbrev pub no_worn : Worn
no_worn = record { sub_area = 32; sectors = 0 }

-- the sums with what one answer wears
abbrev pub add_one : Worn → List ℕ → List ℕ
add_one w sums = pick (ltb w.sub_area 32) (set sums w.sub_area (worn_to (get_or sums w.sub_area 0) w.sectors)) sums

-- with what the answers of the devices below n wear, of a list that has an entry for each of them
unfoldable pub add_worn : List Worn → ℕ → List ℕ → List ℕ
add_worn worn zero sums = sums
add_worn worn (suc n) sums = add_one (get_or worn n (record { sub_area = 0; sectors = 0 })) (add_worn worn n sums)

-- "rounded up to a whole millionth"
unfoldable pub rounded_up : ℕ → ℕ → ℕ
rounded_up n d = pick (eqb (n % d) 0) (n / d) (n / d + 1)

-- "its charge in millionths of the total endurance (endurance times sector count)". "A sub-area without record has charge 0.": endurance 0
unfoldable pub charge_of : ℕ → ℕ → ℕ → ℕ
charge_of sum endurance sectorCount = pick (eqb (endurance * sectorCount) 0) 0 (rounded_up (sum * 1000000) (endurance * sectorCount))

-- So many millionths of a total are the least whole number of them that comes to the sum.
pub record Millionths (sum total charge : ℕ) : Type 0 where
  pub enough : sum * 1000000 ≤ charge * total
  -- "rounded up": no whole millionth less would do
  pub least : (c : ℕ) → sum * 1000000 ≤ c * total → charge ≤ c
