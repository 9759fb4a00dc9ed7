-- The order of ranks, and what an acceptance does to it.
use Rattle.std.specs.Prelude.{ℕ, ◌≤◌, ◌<◌, ◌≡◌, refl, true, false, ◌↔◌, ltb}
use Rattle.std.proofs.Math.Path.{sym, ap}
use Rattle.std.proofs.Common.{◌∙◌, true≢false, arith, ltb-true, lt-ltb, le-ltb, eq-eqb, ne_eqb}
use Rattle.std.proofs.lemmas.Bool.{false≢true}
use Rattle.arith.specs.Cases.{by_bool, by_ltb, by_eqb}
use Rattle.rules.specs.Ranks.{older, ages_after, rank_above, ranks_above}

-- a rank above another: no smaller a priority, and of equal ones the greater age
rank_plain : (p x q y : ℕ) → (rank_above p x q y ≡ true) ↔ ((q ≤ p) × (q ≡ p → y < x))
unfolding rank_above
rank_plain p x q y =
    by_ltb q p (λ e l. rw e (λ _. (omega arith, λ z. absurd (omega arith)), λ _. refl)) λ e l.
    by_eqb q p
    (λ f d. rw (e, f) (λ u. (omega arith, λ _. ltb-true y x u), λ h. lt-ltb y x (h.1 d)))
    (λ f d. rw (e, f) (λ u. absurd (false≢true u), λ h. absurd (d (let k = h.0 in omega arith))))

-- no two areas have one age
abbrev pub AgesApart : (ℕ → ℕ) → Type 0
AgesApart ages = (a b : ℕ) → ages a ≡ ages b → a ≡ b

module _ (priority ages : ℕ → ℕ) where
  -- what it says of two areas
  abbrev Above : ℕ → ℕ → Type 0
  Above a b = (priority b ≤ priority a) × (priority b ≡ priority a → ages b < ages a)

  pub ranks_plain : (a b : ℕ) → (ranks_above priority ages a b ≡ true) ↔ Above a b
  ranks_plain a b = rank_plain (priority a) (ages a) (priority b) (ages b)

  -- above one that is above a third: above that
  pub ranks_chain : (a b c : ℕ) → ranks_above priority ages a b ≡ true → ranks_above priority ages b c ≡ true → ranks_above priority ages a c ≡ true
  ranks_chain a b c e f =
      let h = (ranks_plain a b).0 e in
      let k = (ranks_plain b c).0 f in
      let low = h.0 in
      let high = k.0 in
      (ranks_plain a c).1 (omega arith, λ q. let u = h.1 (omega arith) in let v = k.1 (omega arith) in omega arith)

  -- of two areas one ranks above the other
  pub ranks_differ : AgesApart ages → (a b : ℕ) → (a ≡ b → ⊥) → ranks_above priority ages a b ≡ false → ranks_above priority ages b a ≡ true
  ranks_differ apart a b d e =
      by_ltb (priority a) (priority b) (λ _ l. above (omega arith, λ q. absurd (omega arith))) λ _ l.
      by_ltb (priority b) (priority a) (λ _ m. absurd (not_above (omega arith, λ q. absurd (omega arith)))) λ _ m.
      by_ltb (ages b) (ages a) (λ _ n. absurd (not_above (omega arith, λ _. omega arith))) λ _ n.
      by_eqb (ages a) (ages b) (λ _ z. absurd (d (apart a b z))) λ _ z.
      above (omega arith, λ _. omega arith)
    where
      not_above : Above a b → ⊥
      not_above h = true≢false (sym ((ranks_plain a b).1 h) ∙ e)

      above : Above b a → ranks_above priority ages b a ≡ true
      above h = (ranks_plain b a).1 h

  -- and never both
  pub ranks_one : (a b : ℕ) → ranks_above priority ages a b ≡ true → ranks_above priority ages b a ≡ false
  ranks_one a b e = by_bool (ranks_above priority ages b a) (λ f. absurd (both f)) (λ f. f)
    where
      both : ranks_above priority ages b a ≡ true → ⊥
      both f =
          let h = (ranks_plain a b).0 e in
          let k = (ranks_plain b a).0 f in
          let low = h.0 in
          let high = k.0 in
          let u = h.1 (omega arith) in
          let v = k.1 (omega arith) in
          omega arith

-- one that is not the accepted area: older than the youngest, and in the order in which it was
older_some : (k x : ℕ) → (x ≡ k → ⊥) → 0 < older k x
older_some k x h = by_ltb x k (λ e l. rw e (omega arith)) (λ e l. rw e (by_eqb x k (λ _ z. absurd (h z)) (λ _ z. omega arith)))

older_kept : (k x y : ℕ) → (y ≡ k → ⊥) → x < y → older k x < older k y
older_kept k x y h m =
    by_ltb x k
    (λ e u. by_ltb y k (λ f v. rw (e, f) (omega arith)) (λ f v. rw (e, f) (by_eqb y k (λ _ z. absurd (h z)) (λ _ z. omega arith))))
    (λ e u. rw (e, le-ltb y k (omega arith)) m)

-- a job of area a is accepted
module _ (a : ℕ) (ages : ℕ → ℕ) (apart : AgesApart ages) where
  -- its area is the youngest
  age_first : ages_after a ages a ≡ 0
  unfolding ages_after
  age_first = rw (eq-eqb a a refl)

  age_other : (b : ℕ) → (b ≡ a → ⊥) → ages_after a ages b ≡ older (ages a) (ages b)
  unfolding ages_after
  age_other b h = rw (ne_eqb b a h)

  -- another is older than it
  age_some : (b : ℕ) → (b ≡ a → ⊥) → 0 < ages_after a ages b
  age_some b h = rw (age_other b h) (older_some (ages a) (ages b) (λ z. h (apart b a z)))

  -- two others are in the order in which they were
  others_kept : (b c : ℕ) → (b ≡ a → ⊥) → (c ≡ a → ⊥) → ages b < ages c → ages_after a ages b < ages_after a ages c
  others_kept b c h k l = rw (age_other b h, age_other c k) (older_kept (ages a) (ages b) (ages c) (λ z. k (apart c a z)) l)

  others_same : (b c : ℕ) → (b ≡ a → ⊥) → (c ≡ a → ⊥) → ltb (ages_after a ages b) (ages_after a ages c) ≡ ltb (ages b) (ages c)
  others_same b c h k =
      by_ltb (ages b) (ages c)
      (λ e l. rw (e, lt-ltb _ _ (others_kept b c h k l)))
      (λ e l. by_eqb (ages b) (ages c)
      (λ _ z. rw (apart b c z, le-ltb (ages c) (ages c) (omega arith), le-ltb (ages_after a ages c) (ages_after a ages c) (omega arith)))
      (λ _ z. let m = others_kept c b k h (omega arith) in rw (e, le-ltb (ages_after a ages b) (ages_after a ages c) (omega arith))))

  -- so is their rank
  pub ranks_kept : (priority : ℕ → ℕ) (b c : ℕ) → (b ≡ a → ⊥) → (c ≡ a → ⊥) →
      ranks_above priority (ages_after a ages) b c ≡ ranks_above priority ages b c
  unfolding rank_above
  ranks_kept priority b c h k = rw (others_same c b k h)

  -- no two have one age then: not the youngest and another, nor two others
  first_differs : (b c : ℕ) → b ≡ a → (c ≡ a → ⊥) → ages_after a ages b ≡ ages_after a ages c → ⊥
  first_differs b c g k e = let u = age_some c k in let v : ages_after a ages b ≡ 0 = rw g age_first in omega arith

  ages_differ : (b c : ℕ) → ages b < ages c → ages_after a ages b ≡ ages_after a ages c → ⊥
  unfolding ages_after
  ages_differ b c l e = by_eqb b a (λ _ g. first_differs b c g (λ k. let z : ages b ≡ ages c = ap ages (g ∙ sym k) in omega arith) e) (λ _ g. by_eqb c a (λ _ k. first_differs c b k g (sym e)) (λ _ k. let u = others_kept b c g k l in omega arith))

  pub ages_apart : AgesApart (ages_after a ages)
  ages_apart b c e =
      by_ltb (ages b) (ages c) (λ _ l. absurd (ages_differ b c l e)) λ _ l.
      by_ltb (ages c) (ages b) (λ _ m. absurd (ages_differ c b m (sym e))) λ _ m.
      apart b c (omega arith)

  -- "the earlier accepted job is above": every other area of its priority is above it
  pub last_below : (priority : ℕ → ℕ) (b : ℕ) → (b ≡ a → ⊥) → priority b ≡ priority a → ranks_above priority (ages_after a ages) b a ≡ true
  last_below priority b h e =
      let some = age_some b h in
      let first = age_first in
      (ranks_plain priority (ages_after a ages) b a).1 (omega arith, λ _. omega arith)
