-- A number byte by byte, as the code reads it.
use Rattle.std.specs.Prelude.{ℕ, ◌+◌, ◌*◌, ◌≡◌, List, get_or}
use native.Mathlib.Omega.{arith}
use Rattle.plan.specs.Number.{number_at}

module _ (bytes : List ℕ) (at : ℕ) where
  pub number_one : number_at 1 bytes at ≡ get_or bytes at 0
  unfolding number_at
  number_one = omega arith

  pub number_two : number_at 2 bytes at ≡ get_or bytes at 0 + get_or bytes (at + 1) 0 * 256
  unfolding number_at
  number_two = omega arith

  pub number_four :
      number_at 4 bytes at
      ≡ get_or bytes at 0 + get_or bytes (at + 1) 0 * 256 + get_or bytes (at + 2) 0 * 65536 + get_or bytes (at + 3) 0 * 16777216
  unfolding number_at
  number_four =
      let two : at + 1 + 1 ≡ at + 2 = omega arith in
      let three : at + 2 + 1 ≡ at + 3 = omega arith in
      rw (two, three) (omega arith)
