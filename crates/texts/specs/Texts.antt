-- document 01, "A printed session": what is printed. "Numbers are in decimal digits, and one space separates fields."
use Rattle.std.specs.Prelude.{ℕ, zero, suc, ◌+◌, ◌/◌, ◌%◌, ◌^◌, List, [], ◌∷◌, ◌++◌, leb}
use Rattle.arith.specs.Bounded.{sum}
use Rattle.arith.specs.Cases.{pick}

-- digit k of a number, counted from its last; "0" is 48
abbrev pub digit_of : ℕ → ℕ → ℕ
digit_of n k = 48 + n / 10 ^ k % 10

-- the last k digits of a number, the highest first
unfoldable pub digits_of : ℕ → ℕ → List ℕ
digits_of zero n = []
digits_of (suc k) n = digit_of n k ∷ digits_of k n

abbrev pub reaches : ℕ → ℕ → ℕ
reaches p n = pick (leb p n) 1 0

-- one digit, and one more for each of 10, 100, .. that the number reaches; a number of 64 bits has at most 20
unfoldable pub digit_count : ℕ → ℕ
digit_count n = 1 + sum (λ k. reaches (10 ^ (k + 1)) n) 19

-- without leading zeros
unfoldable pub decimal : ℕ → List ℕ
decimal n = digits_of (digit_count n) n

-- each number behind a character
unfoldable pub behind : ℕ → List ℕ → List ℕ
behind character [] = []
behind character (n ∷ l) = (character ∷ decimal n) ++ behind character l

-- "each prints its number"; a line ends with byte 10
unfoldable pub number_line : ℕ → List ℕ
number_line n = decimal n ++ (10 ∷ [])

-- "?" is 63
abbrev pub question_line : List ℕ
question_line = 63 ∷ 10 ∷ []

-- "accepted info prints result, processed, own, above, below, locked"; a space is 32
unfoldable pub info_line : ℕ → ℕ → ℕ → ℕ → ℕ → ℕ → List ℕ
info_line result processed own above below locked =
    decimal result ++ (32 ∷ decimal processed) ++ behind 32 (own ∷ above ∷ below ∷ locked ∷ []) ++ (10 ∷ [])

-- of a round, "per device '-', 'L', or area:type:physical:length of what runs": "-" is 45, "L" is 76, ":" is 58
abbrev pub free_text : List ℕ
free_text = 32 ∷ 45 ∷ []

abbrev pub locked_text : List ℕ
locked_text = 32 ∷ 76 ∷ []

unfoldable pub request_text : ℕ → ℕ → ℕ → ℕ → List ℕ
request_text area kind physical count =
    (32 ∷ decimal area) ++ (58 ∷ decimal kind) ++ (58 ∷ decimal physical) ++ (58 ∷ decimal count)
