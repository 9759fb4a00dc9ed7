-- Texts on a page, one behind the other.
use Rattle.std.specs.Prelude.{ℕ, ◌+◌, ◌≤◌, ◌≡◌, refl, List, [], ◌++◌, length}
use Rattle.std.proofs.Common.{◌∙◌, arith}
use Rattle.texts.specs.declared.page.Page.{Page}
use Rattle.texts.specs.Appended.{Appended}
use Rattle.texts.specs.Pages.{Prints}
use Rattle.texts.specs.laws.AppendLaws.{append_none, append_more, append_same}

pub prints_none : (p : Page) → Prints 0 p p []
prints_none p = record { same_buffer = refl; appended = append_none p.out.now p.end; few = omega arith }

-- one text behind another
pub prints_more : {p q r : Page} {s t : List ℕ} {m n : ℕ} → Prints m p q s → Prints n q r t → Prints (m + n) p r (s ++ t)
prints_more a b =
    record {
      same_buffer = b.same_buffer ∙ a.same_buffer;
      appended = append_more a.appended b.appended;
      few = omega (arith, a.few, b.few);
    }

-- an equal text, under a higher bound
pub prints_same : {p q : Page} {s t : List ℕ} {m n : ℕ} → s ≡ t → m ≤ n → Prints m p q s → Prints n p q t
prints_same e h a = record { same_buffer = a.same_buffer; appended = append_same e a.appended; few = omega (arith, a.few) }

-- what a page that was empty leaves of the buffer that it was made of
module _ {l x : List ℕ} {p q : Page} {j : ℕ} (empty : (p.out.now ≡ l) × (p.end ≡ 0)) (same : x ≡ q.out.now) (end : j ≡ q.end) where
  pub left_printed : {m : ℕ} {text whole : List ℕ} → text ≡ whole → Prints m p q text → (Appended l x 0 j whole) × (j ≤ length x)
  left_printed e a =
      let few = q.in_bounds in
      rw (same, end) (append_same e (rw (empty.0, empty.1) at a.appended), few)
