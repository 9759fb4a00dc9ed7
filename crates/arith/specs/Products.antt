-- Products of machine numbers.
use Rattle.std.specs.Prelude.{ℕ, ◌*◌, ◌≤◌, ◌<◌}
use Rattle.std.proofs.Common.{arith, mul-le-mul}

-- the product of two numbers of 32 bits fits 64
pub product_fits : {a b : ℕ} → a < 4294967296 → b < 4294967296 → a * b ≤ 18446744065119617025
product_fits {a} {b} h k =
    let h' : a ≤ 4294967295 = omega arith in
    let k' : b ≤ 4294967295 = omega arith in
    mul-le-mul h' k'
