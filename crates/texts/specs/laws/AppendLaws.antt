-- Texts written one behind the other.
use Rattle.std.specs.Prelude.{ℕ, ◌≡◌, refl, List, [], ◌++◌}
use Rattle.std.proofs.Common.{◌∙◌, append_assoc, append-nil, arith, length-append}
use Rattle.texts.specs.Appended.{Appended}

pub append_none : (l : List ℕ) (at : ℕ) → Appended l l at at []
append_none l at = record { bytes = rw append-nil; ends = omega arith; long = refl }

-- one text behind another
pub append_more : {a b c : List ℕ} {i j k : ℕ} {s t : List ℕ} → Appended a b i j s → Appended b c j k t → Appended a c i k (s ++ t)
append_more {s = s} {t = t} p q =
    record {
      bytes = q.bytes ∙ rw (p.bytes, append_assoc);
      ends = simp length-append (omega (arith, p.ends, q.ends));
      long = q.long ∙ p.long;
    }

-- an equal text
pub append_same : {a b : List ℕ} {i j : ℕ} {s t : List ℕ} → s ≡ t → Appended a b i j s → Appended a b i j t
append_same e p = rw e at p
