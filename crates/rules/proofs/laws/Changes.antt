-- Changes to a list of bytes: one, and several of which no two share a byte.
use Rattle.std.specs.Prelude.{ℕ, zero, suc, ◌+◌, ◌-◌, ◌≤◌, ◌<◌, List, ◌≢◌, ◌≡◌, refl, length, get_or}
use Rattle.std.proofs.Common.{sym, subst, ◌∙◌, arith}
use Rattle.arith.specs.Bounded.{below_suc}
use Rattle.arith.specs.Cases.{by_ltb, by_leb}
use Rattle.arith.specs.Parts.{put}
use Rattle.plan.specs.WellFormed.{Among}
use Rattle.rules.proofs.laws.ListLaws.{put_inside, put_outside, length_put}

-- A change to a list: `count` bytes from `start` on, of which byte x becomes `value x`.
pub record Change : Type 0 where
  pub start : ℕ
  pub count : ℕ
  pub value : ℕ → ℕ

-- byte x is one of those
abbrev pub Within : Change → ℕ → Type 0
Within k x = Among k.start k.count x

-- the list l' is l with this change and no other
pub record Made (k : Change) (l l' : List ℕ) : Type 0 where
  pub same_length : length l' ≡ length l
  pub inside : (x : ℕ) → Within k x → get_or l' x 0 ≡ k.value x
  pub outside : (x : ℕ) → (Within k x → ⊥) → get_or l' x 0 ≡ get_or l x 0

-- with the changes of all numbers below n and no other
pub record MadeAll (k : ℕ → Change) (n : ℕ) (l l' : List ℕ) : Type 0 where
  pub same_length : length l' ≡ length l
  pub inside : (d : ℕ) → d < n → (x : ℕ) → Within (k d) x → get_or l' x 0 ≡ (k d).value x
  pub outside : (x : ℕ) → ((d : ℕ) → d < n → Within (k d) x → ⊥) → get_or l' x 0 ≡ get_or l x 0

-- the list l' is l outside of these changes: they may share bytes
pub record Spared (k : ℕ → Change) (n : ℕ) (l l' : List ℕ) : Type 0 where
  pub same_length : length l' ≡ length l
  pub outside : (x : ℕ) → ((d : ℕ) → d < n → Within (k d) x → ⊥) → get_or l' x 0 ≡ get_or l x 0

pub spared_none : (k : ℕ → Change) (l : List ℕ) → Spared k 0 l l
spared_none k l = record { same_length = refl; outside = λ x h. refl }

-- one more, whatever it makes of its bytes
pub spared_more : {k : ℕ → Change} {n : ℕ} {l l' l'' : List ℕ} (v : ℕ → ℕ) → Spared k n l l' →
    Made (record { start = (k n).start; count = (k n).count; value = v }) l' l'' → Spared k (suc n) l l''
spared_more {n = n} v s one =
    record { same_length = one.same_length ∙ s.same_length; outside = λ x f. one.outside x (f n (omega arith)) ∙ s.outside x (λ d h. f d (omega arith)) }

-- whether a byte is within a change can be decided
by_within : {P : Type 0} (k : Change) (x : ℕ) → (Within k x → P) → ((Within k x → ⊥) → P) → P
by_within k x f g =
    by_leb k.start x (λ _ h. by_ltb x (k.start + k.count) (λ _ l. f (h, l)) (λ _ l. g (λ w. omega arith))) (λ _ h. g (λ w. omega arith))

-- and whether it is within one of those below n
by_some : {P : Type 0} (k : ℕ → Change) (n x : ℕ) →
    ((d : ℕ) → d < n → Within (k d) x → P) → (((d : ℕ) → d < n → Within (k d) x → ⊥) → P) → P
by_some k zero x f g = g (λ d h. absurd (omega arith))
by_some k (suc n) x f g =
    by_some k n x (λ d h. f d (omega arith)) λ none.
    by_within (k n) x (f n (omega arith)) λ out.
    g (λ d h w. below_suc d n h (λ e. out (subst (λ i. Within (k i) x) e w)) (λ l. none d l w))

-- a change of 0 bytes leaves the list
pub made_none : (k : Change) (l : List ℕ) → k.count ≡ 0 → Made k l l
made_none k l e = record { same_length = refl; inside = λ x h. absurd (omega arith); outside = λ x h. refl }

-- a list put into another is a change
pub made_put : (k : Change) (n : ℕ) (x l : List ℕ) → length x ≡ n → k.count ≡ n → k.start + n ≤ length l →
    ((i : ℕ) → Within k i → get_or x (i - k.start) 0 ≡ k.value i) → Made k l (put k.start x l)
made_put k n x l e f h v =
    record {
      same_length = length_put k.start x l (omega arith);
      inside = λ i w. put_inside 0 k.start x l (omega arith) i (omega arith) ∙ v i w;
      outside = λ i w. put_outside 0 k.start x l (omega arith) i (λ u. w (omega arith));
    }

-- the same values, the same change
pub made_same : {k : Change} {l l' : List ℕ} (v : ℕ → ℕ) → ((x : ℕ) → Within k x → k.value x ≡ v x) → Made k l l' →
    Made (record { start = k.start; count = k.count; value = v }) l l'
made_same v f m = record { same_length = m.same_length; inside = λ x w. m.inside x w ∙ f x w; outside = m.outside }

-- none of several changes leaves the list
pub all_none : (k : ℕ → Change) (l : List ℕ) → MadeAll k 0 l l
all_none k l = record { same_length = refl; inside = λ d h. absurd (omega arith); outside = λ x h. refl }

-- one more, of bytes that are none of the others'
pub all_more : {k : ℕ → Change} {n : ℕ} {l l' l'' : List ℕ} → ((d : ℕ) → d < n → (x : ℕ) → Within (k d) x → Within (k n) x → ⊥) →
    MadeAll k n l l' → Made (k n) l' l'' → MadeAll k (suc n) l l''
all_more {k} {n} {l} {l'} {l''} apart all one =
    record {
      same_length = one.same_length ∙ all.same_length;
      inside = λ d h x w.
          below_suc d n h
          (λ e. subst (λ i. Within (k i) x → get_or l'' x 0 ≡ (k i).value x) (sym e) (one.inside x) w)
          (λ g. one.outside x (apart d g x w) ∙ all.inside d g x w);
      outside = λ x f. one.outside x (f n (omega arith)) ∙ all.outside x (λ d h. f d (omega arith));
    }

-- a byte that differs is within one of the changes
pub changed_by : {k : ℕ → Change} {n : ℕ} {l l' : List ℕ} → Spared k n l l' → (x : ℕ) → get_or l' x 0 ≢ get_or l x 0 → (d : ℕ) × (d < n) × Within (k d) x
changed_by {k} {n} s x f = by_some k n x (λ d h w. (d, h, w)) (λ none. absurd (f (s.outside x none)))
