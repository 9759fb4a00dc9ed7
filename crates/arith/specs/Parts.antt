-- Parts of lists, and maps of numbers.
use Rattle.std.specs.Prelude.{ℕ, ◌+◌, ◌≤◌, ◌<◌, List, ◌++◌, ◌≡◌, refl, eqb, length, get_or, take, drop}
use Rattle.std.proofs.Common.{sym, subst, ap, ◌∙◌, arith, length-take, length-drop, get_or-take, get_or-drop, eq-eqb, ne_eqb}
use Rattle.arith.specs.Cases.{pick, by_eqb}

-- n elements from p on
unfoldable pub part : {A : Type 0} → ℕ → ℕ → List A → List A
part p n l = take n (drop p l)

-- element i of a part that begins at q
pub part_at : {A : Type 0} (d : A) (q n : ℕ) (l : List A) (i : ℕ) → i < n → get_or (part q n l) i d ≡ get_or l (q + i) d
unfolding part
part_at d q n l i h = rw (get_or-take, get_or-drop)

-- a part has the length that it is asked for
pub length_part : {A : Type 0} (q n : ℕ) (l : List A) → q + n ≤ length l → length (part q n l) ≡ n
unfolding part
length_part q n l h = simp (length-take, length-drop) (omega arith)

-- l with x in the place of as many elements from p on
unfoldable pub put : {A : Type 0} → ℕ → List A → List A → List A
put p x l = take p l ++ (x ++ drop (p + length x) l)

-- a map with one place changed
unfoldable pub upd : {A : Type 0} → (ℕ → A) → ℕ → A → ℕ → A
upd f a v b = pick (eqb a b) v (f b)

pub upd_same : {A : Type 0} (f : ℕ → A) (a : ℕ) (v : A) → upd f a v a ≡ v
unfolding upd
upd_same f a v = rw (eq-eqb a a refl)

pub upd_other : {A : Type 0} (f : ℕ → A) (a b : ℕ) (v : A) → (a ≡ b → ⊥) → upd f a v b ≡ f b
unfolding upd
upd_other f a b v h = rw (ne_eqb a b h)

-- what holds of the new value and of the old one holds of the changed map
pub upd_case : {A : Type 0} (P : A → Type 0) (f : ℕ → A) (a b : ℕ) (v : A) → (a ≡ b → P v) → ((a ≡ b → ⊥) → P (f b)) → P (upd f a v b)
upd_case P f a b v h k =
    by_eqb a b (λ _ e. subst P (sym (ap (upd f a v) (sym e) ∙ upd_same f a v)) (h e)) (λ _ e. subst P (sym (upd_other f a b v e)) (k e))

-- a family at b: the case that b is a has only to be shown at a
pub same_or : (P : ℕ → Type 0) (a b : ℕ) → P a → ((a ≡ b → ⊥) → P b) → P b
same_or P a b f g = by_eqb a b (λ _ e. subst P e f) (λ _ e. g e)
