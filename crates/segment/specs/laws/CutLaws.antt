-- A job's segments one by one, for any way to cut that leaves no segment empty.
use Prim.Native.Nat.{ℕ, zero, suc, ◌+◌, ◌-◌, ◌≤◌, ◌<◌}
use Rattle.std.specs.Prelude.{◌≡◌, [], ◌∷◌}
use Rattle.std.proofs.Math.Path.{refl, ap}
use Rattle.std.proofs.Common.{sym, ◌∙◌, le_refl}
use native.Mathlib.Omega.{arith}
use Rattle.memory.specs.declared.Task.{Task}
use Rattle.segment.specs.Segments.{cut, segments_from}
use Rattle.segment.specs.declared.Segment.{Segment}

-- the places where a job is cut: its start, and the end of the segment at each place before the job's end
pub data Cut (next : ℕ → Segment) (t : Task) : ℕ → Type 0 where
  at_start : Cut next t 0
  at_end : {x : ℕ} → Cut next t x → x < t.length → Cut next t (x + (next x).length)

module _ (next : ℕ → Segment) where
  -- nothing left, no segment
  cut_none : (m x : ℕ) → cut m next 0 x ≡ []
  unfolding cut
  cut_none zero x = refl
  cut_none (suc m) x = refl

  -- there is no segment from the job's end on
  pub segments_end : (t : Task) (x : ℕ) → t.length ≤ x → segments_from next t x ≡ []
  unfolding segments_from
  segments_end t x h = let e : t.length - x ≡ 0 = omega arith in rw e (cut_none 0 x)

module _ (next : ℕ → Segment) (t : Task) (some : (x : ℕ) → x < t.length → 1 ≤ (next x).length) where
  -- room for more segments than bytes changes nothing
  cut_room : (m k n x : ℕ) → n ≡ t.length - x → n ≤ m → n ≤ k → cut m next n x ≡ cut k next n x
  unfolding cut
  cut_room zero k n x e h l = let q : n ≡ 0 = omega arith in rw q (sym (cut_none next k x))
  cut_room (suc m) zero n x e h l = let q : n ≡ 0 = omega arith in rw q
  cut_room (suc m) (suc k) zero x e h l = refl
  cut_room (suc m) (suc k) (suc n) x e h l =
      let g : 1 ≤ (next x).length = some x (omega arith) in
      ap (λ s. next x ∷ s) (cut_room m k (suc n - (next x).length) (x + (next x).length) (omega arith) (omega arith) (omega arith))

  -- with room enough it is all of the segments
  cut_all : (m n x : ℕ) → n ≡ t.length - x → n ≤ m → cut m next n x ≡ segments_from next t x
  unfolding segments_from
  cut_all m n x e h = rw (← e) (cut_room m n n x e h (le_refl n))

  -- the segments from x on: the one at x, and those from its end on
  pub cut_next : (x : ℕ) → x < t.length → segments_from next t x ≡ next x ∷ segments_from next t (x + (next x).length)
  cut_next x h = sym (cut_all (t.length - x) (t.length - x) x refl (le_refl _)) ∙ first (t.length - x) refl
    where
      first : (n : ℕ) → n ≡ t.length - x → cut n next n x ≡ next x ∷ segments_from next t (x + (next x).length)
      first zero e = absurd (omega arith)
      first (suc n) e =
          let g : 1 ≤ (next x).length = some x h in
          unfold cut in ap (λ s. next x ∷ s) (cut_all n (suc n - (next x).length) (x + (next x).length) (omega arith) (omega arith))
