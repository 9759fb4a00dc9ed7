-- The mask decides, for any size and any address: the test of a size falls to that of its half, and 2 ^ k - 1 masks the remainder by 2 ^ k.
use Rattle.std.specs.Prelude.{ℕ, zero, suc, ◌+◌, ◌-◌, ◌*◌, ◌/◌, ◌%◌, ◌≤◌, ◌<◌, true, ◌↔◌, ◌≡◌, eqb}
use Rattle.std.specs.Int.{◌∣◌}
use Rattle.std.proofs.Common.{true≢false, sym, ◌∙◌, subst, pow-suc, arith, pow_pos, eqb-true, leb-true, eq-eqb, ne_eqb, le-leb}
use Rattle.std.proofs.Math.Nat.{mod_self, mod-eq-zero_of_dvd, dvd_of_mod-eq-zero}
use Rattle.std.proofs.Math.Arith.{bin_ind}
use Rattle.std.specs.Int.Bits.{and_step, and_self}
use Rattle.std.proofs.lemmas.Nat.{and_mask}
use Rattle.arith.specs.Cases.{and_elim, and_intro, by_bool}
use Rattle.arith.specs.Multiples.{multiple, multiple_elim, multiple_intro}
use Rattle.multiples.specs.Powers.{PowerOfTwo, masked, is_power_of_two, MaskDecides}

-- the mask of a power of two leaves the remainder
masked_rest : (s n : ℕ) → PowerOfTwo s → masked s n ≡ n % s
unfolding masked
masked_rest s n (k, e) = rw e (and_mask n k)

power_pos : (s : ℕ) → PowerOfTwo s → 1 ≤ s
power_pos s (k, e) = rw e (pow_pos k)

-- the mask of an even size leaves of the size twice what that of its half leaves of the half
mask_even : (h : ℕ) → 1 ≤ h → masked (2 * h) (2 * h) ≡ masked h h * 2
unfolding masked
mask_even h l =
    let a : (2 * h) / 2 ≡ h = omega arith in
    let b : (2 * h) % 2 ≡ 0 = omega arith in
    let c : (2 * h - 1) / 2 ≡ h - 1 = omega arith in
    let d : (2 * h - 1) % 2 ≡ 1 = omega arith in
    and_step (2 * h) (2 * h - 1) ∙ rw (a, b, c, d) (omega arith)

-- that of an odd size leaves all but its lowest bit
mask_odd : (h : ℕ) → masked (2 * h + 1) (2 * h + 1) ≡ h * 2
unfolding masked
mask_odd h =
    let a : (2 * h + 1) / 2 ≡ h = omega arith in
    let b : (2 * h + 1) % 2 ≡ 1 = omega arith in
    let c : (2 * h + 1 - 1) / 2 ≡ h = omega arith in
    let d : (2 * h + 1 - 1) % 2 ≡ 0 = omega arith in
    and_step (2 * h + 1) (2 * h + 1 - 1) ∙ rw (a, b, c, d, and_self h) (omega arith)

twice_power : (h : ℕ) → PowerOfTwo h → PowerOfTwo (2 * h)
twice_power h (k, e) = (suc k, omega (arith, pow-suc 2 k, e))

-- a size of which the mask leaves nothing is a power of two if its half is: an odd one is 1
half_power : (s h r : ℕ) → s ≡ 2 * h + r → r < 2 → 1 ≤ s → masked s s ≡ 0 → (1 ≤ h → masked h h ≡ 0 → PowerOfTwo h) → PowerOfTwo s
half_power s h zero q b l e f =
    let q' : s ≡ 2 * h = omega arith in
    let g : masked (2 * h) (2 * h) ≡ 0 = subst (λ x. masked x x ≡ 0) q' e in
    subst PowerOfTwo (sym q') (twice_power h (f (omega arith) (omega (arith, mask_even h (omega arith), g))))
half_power s h (suc zero) q b l e f =
    let q' : s ≡ 2 * h + 1 = omega arith in
    let g : masked (2 * h + 1) (2 * h + 1) ≡ 0 = subst (λ x. masked x x ≡ 0) q' e in
    (0, omega (arith, mask_odd h, g))
half_power s h (suc (suc r)) q b l e f = absurd (omega arith)

passed_power : (s : ℕ) → 1 ≤ s → masked s s ≡ 0 → PowerOfTwo s
passed_power =
    bin_ind (λ s. 1 ≤ s → masked s s ≡ 0 → PowerOfTwo s) (λ l e. absurd (omega arith))
    (λ s ih l e. half_power s (s / 2) (s % 2) (omega arith) (omega arith) l e ih)

size_test : (s : ℕ) → (is_power_of_two s ≡ true) ↔ PowerOfTwo s
unfolding is_power_of_two
size_test s = (only_powers, every_power)
  where
    only_powers : is_power_of_two s ≡ true → PowerOfTwo s
    only_powers t =
        let both = and_elim _ (eqb (masked s s) 0) t in
        passed_power s (omega (arith, leb-true _ s both.0)) (eqb-true (masked s s) 0 both.1)

    every_power : PowerOfTwo s → is_power_of_two s ≡ true
    every_power p = and_intro (le-leb _ s (omega (arith, power_pos s p))) (eq-eqb (masked s s) 0 (masked_rest s s p ∙ mod_self s))

masked_address : (s n : ℕ) → PowerOfTwo s → (masked s n ≡ 0) ↔ (s ∣ n)
masked_address s n p =
    (λ e. dvd_of_mod-eq-zero _ (sym (masked_rest s n p) ∙ e), λ d. masked_rest s n p ∙ mod-eq-zero_of_dvd _ d)

pub mask_decides : MaskDecides
mask_decides = record { size_test = size_test; masked_address = masked_address }

-- for the code: the test that the mask makes is that of the remainder
pub mask_multiple : (s n : ℕ) → is_power_of_two s ≡ true → eqb (masked s n) 0 ≡ multiple s n
mask_multiple s n t =
    let decides = masked_address s n ((size_test s).0 t) in
    by_bool (multiple s n)
    (λ e. eq-eqb (masked s n) 0 (decides.1 (multiple_elim s n e)) ∙ sym e)
    (λ e. ne_eqb (masked s n) 0 (λ q. true≢false (sym (multiple_intro s n (decides.0 q)) ∙ e)) ∙ sym e)
