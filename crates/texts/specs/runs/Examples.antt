-- The texts, evaluated: numbers of one digit to 20, and lines of the printed session.
use Rattle.std.specs.Prelude.{◌≡◌, refl, [], ◌∷◌}
use Rattle.arith.specs.Bounded.{sum}
use Rattle.texts.specs.Texts.{digits_of, digit_count, decimal, behind, number_line, info_line, request_text}

pub numbers :
    (decimal 0 ≡ 48 ∷ [])
    × (decimal 9 ≡ 57 ∷ [])
    × (decimal 10 ≡ 49 ∷ 48 ∷ [])
    × (decimal 4294967295 ≡ 52 ∷ 50 ∷ 57 ∷ 52 ∷ 57 ∷ 54 ∷ 55 ∷ 50 ∷ 57 ∷ 53 ∷ [])
    × (decimal 18446744073709551615 ≡ 49 ∷ 56 ∷ 52 ∷ 52 ∷ 54 ∷ 55 ∷ 52 ∷ 52 ∷ 48 ∷ 55 ∷ 51 ∷ 55 ∷ 48 ∷ 57 ∷ 53 ∷ 53 ∷ 49 ∷ 54 ∷ 49 ∷ 53 ∷ [])
unfolding sum digits_of digit_count decimal
numbers = (refl, refl, refl, refl, refl)

-- "0", "0 12 4 1 0 0" and " 1:1:32:4"
pub lines :
    (number_line 0 ≡ 48 ∷ 10 ∷ [])
    × (info_line 0 12 4 1 0 0 ≡ 48 ∷ 32 ∷ 49 ∷ 50 ∷ 32 ∷ 52 ∷ 32 ∷ 49 ∷ 32 ∷ 48 ∷ 32 ∷ 48 ∷ 10 ∷ [])
    × (request_text 1 1 32 4 ≡ 32 ∷ 49 ∷ 58 ∷ 49 ∷ 58 ∷ 51 ∷ 50 ∷ 58 ∷ 52 ∷ [])
unfolding sum digits_of digit_count decimal behind number_line info_line request_text
lines = (refl, refl, refl)
