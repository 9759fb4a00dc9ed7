-- The parts of bytes that are cut at each byte c, and the bytes themselves.
use Rattle.std.specs.Prelude.{ℕ, suc, ◌+◌, true, false, ◌≡◌, length, take, drop}
use Rattle.std.proofs.Common.{true≢false, sym, ap, ◌∙◌, arith}
use Rattle.std.proofs.lemmas.Bool.{false≢true}
use mathlib.Core.List.{List, [], ◌∷◌, ◌++◌}
use Rattle.std.proofs.Math.Path.{refl}
use borrow.Author.Tests.{eq-eqb}
use Rattle.std.proofs.Math.Seq.{take-append-add}
use Rattle.arith.specs.Cases.{by_eqb}
use Rattle.lines.specs.Fields.{in_front, cut_at, rest, is_last}
use Rattle.lines.specs.laws.FieldLaws.{in_front_none, some_field}

abbrev pub first_part : List (List ℕ) → List ℕ
first_part [] = []
first_part (f ∷ fs) = f

front_first : (b : ℕ) (F : List (List ℕ)) → first_part (in_front (b ∷ []) F) ≡ b ∷ first_part F
front_first b [] = refl
front_first b (f ∷ fs) = refl

front_rest : (b : ℕ) (F : List (List ℕ)) → rest (in_front (b ∷ []) F) ≡ rest F
front_rest b [] = refl
front_rest b (f ∷ fs) = refl

front_more : (b : ℕ) (w : List ℕ) (F : List (List ℕ)) → in_front (b ∷ []) (in_front w F) ≡ in_front (b ∷ w) F
front_more b w [] = refl
front_more b w (f ∷ fs) = refl

module _ (c : ℕ) where
  -- a byte c behind the first part ends it: there is none in it
  first_ended : (l x : List ℕ) → cut_at c (first_part (cut_at c l) ++ (c ∷ x)) ≡ first_part (cut_at c l) ∷ cut_at c x
  unfolding cut_at
  first_ended [] x = rw (eq-eqb c c refl)
  first_ended (b ∷ l) x =
      by_eqb b c (λ e _. rw (e, eq-eqb c c refl)) (λ e _. rw (e, front_first b (cut_at c l), e, first_ended l x))

  -- where there are more parts, a byte c stands behind the first, and the others come from what follows
  first_split : (l : List ℕ) → is_last (rest (cut_at c l)) ≡ false →
      let n = suc (length (first_part (cut_at c l))) in
      (l ≡ first_part (cut_at c l) ++ (c ∷ drop n l)) × (cut_at c (drop n l) ≡ rest (cut_at c l))
  unfolding cut_at
  first_split [] h = absurd (true≢false h)
  first_split (b ∷ l) h =
      by_eqb b c (λ e q. rw (e, q) (refl, refl)) (λ e _.
      let ih = first_split l (ap is_last (sym (front_rest b (cut_at c l))) ∙ rw e at h) in
      rw (e, front_first b (cut_at c l), front_rest b (cut_at c l)) (ap (λ x. b ∷ x) ih.0, ih.1))

  -- and where there are none, it is all
  first_all : (l : List ℕ) → is_last (rest (cut_at c l)) ≡ true → first_part (cut_at c l) ≡ l
  unfolding cut_at
  first_all [] h = refl
  first_all (b ∷ l) h =
      by_eqb b c (λ e _. absurd (false≢true (sym (some_field c l) ∙ rw e at h))) (λ e _.
      rw (e, front_first b (cut_at c l)) (ap (λ x. b ∷ x) (first_all l (ap is_last (sym (front_rest b (cut_at c l))) ∙ rw e at h))))

  -- bytes with no byte c go in front of the first part of what follows
  pub front_joins : (w y : List ℕ) → is_last (rest (cut_at c w)) ≡ true → cut_at c (w ++ y) ≡ in_front w (cut_at c y)
  unfolding cut_at
  front_joins [] y h = in_front_none (cut_at c y) (some_field c y)
  front_joins (b ∷ w) y h =
      by_eqb b c (λ e _. absurd (false≢true (sym (some_field c w) ∙ rw e at h))) (λ e _.
      rw e (ap (in_front (b ∷ [])) (front_joins w y (ap is_last (sym (front_rest b (cut_at c w))) ∙ rw e at h)) ∙ front_more b w (cut_at c y)))

  -- the same of bytes whose parts are known
  pub cut_last : (input l : List ℕ) → cut_at c input ≡ l ∷ [] → input ≡ l
  cut_last input l e = sym (first_all input (ap (λ F. is_last (rest F)) e)) ∙ ap first_part e

  module _ (input l k : List ℕ) (ls : List (List ℕ)) (e : cut_at c input ≡ l ∷ k ∷ ls) where
    abbrev behind : List ℕ
    behind = drop (suc (length l)) input

    first_is : first_part (cut_at c input) ≡ l
    first_is = ap first_part e

    pub cut_split : input ≡ l ++ (c ∷ behind)
    cut_split = rw first_is at (first_split input (ap (λ F. is_last (rest F)) e)).0

    pub cut_behind : cut_at c behind ≡ k ∷ ls
    cut_behind = (rw first_is at (first_split input (ap (λ F. is_last (rest F)) e)).1) ∙ ap rest e

    pub cut_ended : (x : List ℕ) → cut_at c (l ++ (c ∷ x)) ≡ l ∷ cut_at c x
    cut_ended x = rw first_is at (first_ended input x)

    -- with what is behind the first part cut short
    pub cut_short : (u : ℕ) → cut_at c (take (suc (length l) + u) input) ≡ l ∷ cut_at c (take u behind)
    cut_short u =
        let n : suc (length l) + u ≡ length l + suc u = omega arith in
        ap (λ k. cut_at c (take k input)) n
        ∙ ap (λ x. cut_at c (take (length l + suc u) x)) cut_split
        ∙ ap (cut_at c) (take-append-add l (c ∷ behind) (suc u))
        ∙ cut_ended (take u behind)
