-- What a write leaves: on a chip that stores, and on one that only clears bits.
use Rattle.std.specs.Prelude.{ℕ, zero, suc, ◌+◌, ◌*◌, ◌/◌, ◌%◌, ◌^◌, ◌≤◌, min, Bool, true, false, ◌≡◌, refl}
use Rattle.std.proofs.Common.{sym, ap, ap₂, ◌∙◌, arith}
use Rattle.std.specs.Int.Bits.{bit_and, and_step}
use Rattle.std.proofs.lemmas.Nat.{and_shr, and_mod}
use Rattle.rules.specs.Memory.{written_byte}

-- bit k of a number
abbrev pub bit : ℕ → ℕ → ℕ
bit k n = n / 2 ^ k % 2

-- two digits and-ed
digits_and : (p q : ℕ) → p ≤ 1 → q ≤ 1 → bit_and p q ≡ min p q
digits_and p q h k =
    let e : p / 2 ≡ 0 = omega arith in
    and_step p q ∙ rw e (omega arith)

-- a chip that stores holds the window's byte, whatever it held
pub written_stored : (old b : ℕ) → written_byte false old b ≡ b
written_stored old b = refl

-- "On NOR flash a write can turn a bit from 1 to 0 and never back.": a bit is 1 just where it was 1 and the window's is 1
pub written_bit : (old b k : ℕ) → bit k (written_byte true old b) ≡ min (bit k old) (bit k b)
written_bit old b k =
    ap (λ n. n % 2) (and_shr old b k)
    ∙ and_mod (old / 2 ^ k) (b / 2 ^ k) 1
    ∙ digits_and (bit k old) (bit k b) (omega arith) (omega arith)

-- and-ed once more with the same byte: by halves, of which a number up to n has no more than n
and_again : (n a b : ℕ) → a ≤ n → bit_and (bit_and a b) b ≡ bit_and a b
and_again zero a b h = let e : a ≡ 0 = omega arith in rw e
and_again (suc n) a b h =
    let x = bit_and a b in
    let step = and_step a b in
    let half : x / 2 ≡ bit_and (a / 2) (b / 2) = omega (arith, step) in
    let odd : x % 2 ≡ min (a % 2) (b % 2) = omega (arith, step) in
    let low : min (min (a % 2) (b % 2)) (b % 2) ≡ min (a % 2) (b % 2) = omega arith in
    and_step x b
    ∙ (λ i. bit_and (half i) (b / 2) * 2 + min (odd i) (b % 2))
    ∙ ap₂ (λ y z. y * 2 + z) (and_again n (a / 2) (b / 2) (omega arith)) low
    ∙ sym step

-- a write that is tried again with the same window leaves what one try would have left
pub written_again : (clears : Bool) (old b : ℕ) → written_byte clears (written_byte clears old b) b ≡ written_byte clears old b
written_again false old b = refl
written_again true old b = and_again old old b (omega arith)
