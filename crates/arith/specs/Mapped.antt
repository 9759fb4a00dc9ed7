-- An array that a call made of each element of another is the table of what the call gives.
use Rattle.std.specs.Prelude.{ℕ, ◌≡◌, List, get_or}
use Rattle.std.specs.Array.{IsMapOf}
use Rattle.std.specs.Fn.{Called}
use Rattle.arith.specs.Tables.{table, table_whole}
use denote.Param.Members.{Mut}

pub mapped : {F A B : Type 0} (g : Mut F (A × Unit {0}) B) {f : F} (view : A → B) (d : A) {xs : List A} {ys : List B} (k : ℕ) →
    ((p : F) (x : A) (y : B) (q : F) → Called g p (x, tt) y q → y ≡ view x) → IsMapOf g f xs ys k → ys ≡ table k (λ i. view (get_or xs i d)) (view d) k
mapped g view d k called each =
    table_whole k _ (view d) _ each.long (λ i h. let at = each.at i d (view d) h in called _ _ _ _ at.2)
