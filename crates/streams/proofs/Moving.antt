-- What several reads or writes moved, one after the other.
use Rattle.std.specs.Prelude.{ℕ, ◌+◌, ◌-◌, ◌≤◌, List, [], ◌++◌, ◌≡◌, length, take, drop}
use Rattle.std.specs.declared.option.Option.{Option}
use Rattle.std.specs.Io.KnownBytes.{Consumes, Appends}
use Rattle.std.proofs.Common.{sym, ap, ◌∙◌, subst, append_assoc, append-nil, length-take-le, take_at, drop_at, take-add, take-append-drop, drop_of_length-le}
use Rattle.std.proofs.KnownBytes.{Consumes-trans, Appends-trans}
use Rattle.std.proofs.lemmas.List.{take-append-le, take_rest}
use Rattle.streams.specs.Moved.{Wrote}

-- f bytes were read into the front of xs, and then n into the part behind them
pub read_more : (a b c : Option (List ℕ)) (xs part rest : List ℕ) (f n : ℕ) → f ≤ length xs → n ≤ length part →
    Consumes a b (take f xs) → Consumes b c (take n part) → Consumes a c (take (f + n) (take f xs ++ (part ++ rest)))
read_more a b c xs part rest f n h k p q =
    let l = take f xs ++ (part ++ rest) in
    let len : length (take f xs) ≡ f = length-take-le f xs h in
    let behind : take n (drop f l) ≡ take n part = ap (take n) (drop_at (take f xs) (part ++ rest) f len) ∙ take-append-le n part rest k in
    let whole : take (f + n) l ≡ take f xs ++ take n part = take-add f n l ∙ (λ i. take_at (take f xs) (part ++ rest) f len i ++ behind i) in
    subst (Consumes a c) (sym whole) (Consumes-trans a b c (take f xs) (take n part) p q)

-- the first f bytes of xs were taken, and then n of the rest
pub took_more : (a b c : Option (List ℕ)) (xs : List ℕ) (f n : ℕ) → Appends a b (take f xs) → Appends b c (take n (take (length xs - f) (drop f xs))) → Appends a c (take (f + n) xs)
took_more a b c xs f n p q =
    let whole : take (f + n) xs ≡ take f xs ++ take n (take (length xs - f) (drop f xs)) = take-add f n xs ∙ ap (λ l. take f xs ++ take n l) (sym (take_rest xs f)) in
    subst (Appends a c) (sym whole) (Appends-trans a b c _ _ p q)

-- the first k bytes of a text were taken
pub wrote_front : (a b : Option (List ℕ)) (text : List ℕ) (k : ℕ) {Whole : Type 0} → Appends a b (take k text) → (Whole → length text ≤ k) → Wrote a b text Whole
wrote_front a b text k p all =
    record { front = take k text; rest = drop k text; appended = p; parts = take-append-drop k text; all = λ w. drop_of_length-le text {i = k} (all w) }

-- a text of which `first` was written, and then what stands before `left`
pub wrote_on : (a b c : Option (List ℕ)) (text first rest part left : List ℕ) {W V : Type 0} → Appends a b first → first ++ rest ≡ text → part ++ left ≡ rest → (w : Wrote b c part W)
    → (V → (left ≡ []) × W) → Wrote a c text V
wrote_on a b c text first rest part left p e f w all =
    let more : w.front ++ (w.rest ++ left) ≡ rest = sym (append_assoc w.front w.rest left) ∙ ap (λ l. l ++ left) w.parts ∙ f in
    record {
      front = first ++ w.front;
      rest = w.rest ++ left;
      appended = Appends-trans a b c first w.front p w.appended;
      parts = append_assoc first w.front (w.rest ++ left) ∙ ap (λ l. first ++ l) more ∙ e;
      all = λ v. let (none, whole) = all v in (λ i. w.all whole i ++ none i);
    }

-- a text that was written whole
pub wrote_all : (a b : Option (List ℕ)) (text : List ℕ) {Whole : Type 0} → (w : Wrote a b text Whole) → Whole → Appends a b text
wrote_all a b text w whole = subst (Appends a b) (sym (append-nil w.front) ∙ ap (λ l. w.front ++ l) (sym (w.all whole)) ∙ w.parts) w.appended
