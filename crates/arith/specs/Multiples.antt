-- Multiples of a size, for any size.
use Rattle.std.specs.Prelude.{ℕ, ◌%◌, ◌≡◌, refl, Bool, true, eqb}
use Rattle.std.specs.Int.{◌∣◌}
use Rattle.std.proofs.Math.Nat.{dvd_of_mod-eq-zero, mod-eq-zero_of_dvd, mod-zero}
use Rattle.std.proofs.Common.{eqb-true, eq-eqb}

-- n is a multiple of the size u
unfoldable pub multiple : ℕ → ℕ → Bool
multiple u n = eqb (n % u) 0

pub multiple_elim : (u n : ℕ) → multiple u n ≡ true → u ∣ n
unfolding multiple
multiple_elim u n e = dvd_of_mod-eq-zero _ (eqb-true (n % u) 0 e)

pub multiple_intro : (u n : ℕ) → u ∣ n → multiple u n ≡ true
unfolding multiple
multiple_intro u n d = eq-eqb (n % u) 0 (mod-eq-zero_of_dvd _ d)

-- 0 alone is a multiple of 0
pub multiple_zero : (u n : ℕ) → u ≡ 0 → multiple u n ≡ eqb n 0
unfolding multiple
multiple_zero u n e = rw (e, mod-zero)

pub multiple_is : (u n : ℕ) → multiple u n ≡ eqb (n % u) 0
unfolding multiple
multiple_is u n = refl
