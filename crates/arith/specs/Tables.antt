-- A table of fixed length whose first entries are in use.
use Prim.Native.Nat.{ℕ, zero, suc, ◌+◌, ◌<◌, ◌≤◌}
use Rattle.std.specs.Prelude.{◌≡◌, refl, List, length, get_or, set, replicate, eqb}
use Rattle.std.proofs.Common.{sym, ◌∙◌, arith, get_or-set_same, ext_get_or}
use Rattle.std.proofs.Math.Numerals.{add-one}
use Rattle.std.proofs.Math.ListN.{length-set, length-replicate, get_or-replicate}
use Rattle.std.proofs.Math.Seq.{get_or-set_other}
use Rattle.arith.specs.Bounded.{below_suc}
use Rattle.arith.specs.Cases.{pick, by_eqb}

module _ {A : Type 0} (k : ℕ) (f : ℕ → A) (blank : A) where
  -- k entries: the first n are f 0, f 1, .., f (n - 1), and the others are blank
  unfoldable pub table : ℕ → List A
  table zero = replicate k blank
  table (suc n) = set (table n) n (f n)

  pub length_table : (n : ℕ) → length (table n) ≡ k
  unfolding table
  length_table zero = length-replicate k blank
  length_table (suc n) = rw length-set (length_table n)

  -- the step of a loop that fills the table
  pub table_more : (n : ℕ) → table (n + 1) ≡ set (table n) n (f n)
  unfolding table
  table_more n = rw add-one

  pub table_at : (n i : ℕ) (d : A) → i < n → n ≤ k → get_or (table n) i d ≡ f i
  unfolding table
  table_at zero i d h l = absurd (omega arith)
  table_at (suc n) i d h l =
      below_suc i n h
      (λ e. rw e (get_or-set_same (table n) n (f n) d (rw (length_table n) l)))
      (λ g. get_or-set_other (table n) n i (f n) d (λ e. omega arith) ∙ table_at n i d g (omega arith))

  pub table_blank : (n i : ℕ) (d : A) → n ≤ i → i < k → get_or (table n) i d ≡ blank
  unfolding table
  table_blank zero i d h l = get_or-replicate k i blank d l
  table_blank (suc n) i d h l = get_or-set_other (table n) n i (f n) d (λ e. omega arith) ∙ table_blank n i d (omega arith) l

-- equal entries, equal tables
pub table_same : {A : Type 0} (k : ℕ) (f g : ℕ → A) (blank : A) (n : ℕ) → ((i : ℕ) → i < n → f i ≡ g i) → table k f blank n ≡ table k g blank n
unfolding table
table_same k f g blank zero h = refl
table_same k f g blank (suc n) h = rw (table_same k f g blank n (λ i l. h i (omega arith)), h n (omega arith))

-- a list is the table of its entries
pub table_whole : {A : Type 0} (k : ℕ) (f : ℕ → A) (blank : A) (l : List A) → length l ≡ k → ((i : ℕ) → i < k → get_or l i blank ≡ f i) → l ≡ table k f blank k
table_whole k f blank l e h =
    ext_get_or blank l (table k f blank k) (rw (length_table k f blank k) e)
    (λ i m. let b : i < k = omega (arith, e, m) in h i b ∙ sym (table_at k f blank k i blank b (omega arith)))

-- an entry set in a table that is all in use; outside it nothing changes
pub table_set : {A : Type 0} (k : ℕ) (f : ℕ → A) (blank : A) (n : ℕ) (x : A) → set (table k f blank k) n x ≡ table k (λ i. pick (eqb n i) x (f i)) blank k
table_set k f blank n x =
    table_whole k _ blank _ (rw length-set (length_table k f blank k)) λ i h.
    by_eqb n i
    (λ q e. rw (q, ← e) (get_or-set_same (table k f blank k) n x blank (rw (length_table k f blank k) (omega arith))))
    (λ q e. rw q (get_or-set_other (table k f blank k) n i x blank (λ r. e (sym r)) ∙ table_at k f blank k i blank h (omega arith)))
