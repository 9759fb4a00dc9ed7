-- document 01, "A printed session": "Numbers are in decimal digits"
use Rattle.std.specs.Prelude.{ℕ, zero, suc, ◌+◌, ◌-◌, ◌*◌, Bool, Option, Some, None, ◌&&◌, List, ltb, leb, length, get_or}
use Rattle.arith.specs.Bounded.{every}
use Rattle.arith.specs.Cases.{pick}

-- "0" is 48, and "9" is 57
abbrev pub is_digit : ℕ → Bool
is_digit b = leb 48 b && leb b 57

abbrev pub digit_at : List ℕ → ℕ → Bool
digit_at l i = is_digit (get_or l i 0)

-- the number that the first n digits make
unfoldable pub value_of : List ℕ → ℕ → ℕ
value_of l zero = 0
value_of l (suc n) = 10 * value_of l n + (get_or l n 0 - 48)

-- digits and nothing else, leading zeros among them; "a number above 4,294,967,295" is none
unfoldable pub number_of : List ℕ → Option ℕ
number_of l =
    pick (ltb 0 (length l))
    (pick (every (digit_at l) (length l))
    (pick (leb (value_of l (length l)) 4294967295) (Some (value_of l (length l))) None)
    None)
    None
