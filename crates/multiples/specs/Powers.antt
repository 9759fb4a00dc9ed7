-- document 02, 04: "Where the size is a power of two, a mask of the size less one shall decide it."
use Rattle.std.specs.Prelude.{ℕ, ◌-◌, ◌^◌, Bool, true, ◌&&◌, ◌↔◌, ◌≡◌, eqb, leb}
use Rattle.std.specs.Int.{◌∣◌}
use Rattle.std.specs.Int.Bits.{bit_and}

-- 1, which is 2 ^ 0, included
abbrev pub PowerOfTwo : ℕ → Type 0
PowerOfTwo s = (k : ℕ) × (s ≡ 2 ^ k)

-- "a mask of the size less one": what it leaves of n
unfoldable pub masked : ℕ → ℕ → ℕ
masked s n = bit_and n (s - 1)

-- "the size test": the size is not 0, and the mask leaves nothing of it
unfoldable pub is_power_of_two : ℕ → Bool
is_power_of_two s = leb 1 s && eqb (masked s s) 0

-- "Shown once for any size: the size test says yes exactly for the powers of two, 1 included, and for these the masked address is 0 exactly when the
-- address is a multiple."
pub record MaskDecides : Type 0 where
  pub size_test : (s : ℕ) → (is_power_of_two s ≡ true) ↔ PowerOfTwo s
  pub masked_address : (s address : ℕ) → PowerOfTwo s → (masked s address ≡ 0) ↔ (s ∣ address)
