-- A turn of the bench, and the turns one after the other.
use Rattle.std.specs.Prelude.{ℕ, ◌+◌, ◌≤◌, Bool, true, false, List, [], ◌++◌, ◌≡◌, length, take, drop}
use Rattle.std.specs.declared.option.Option.{Option}
use Rattle.std.specs.Prelude.{Ok, Err, IfOk}
use Rattle.std.specs.Result.{result_unwrap_or}
use Rattle.std.specs.declared.result.Result.{Result}
use Rattle.std.specs.Io.KnownBytes.{Appends, Consumes, ReadConsumes}
use Rattle.std.proofs.Common.{arith, refl, sym, ap, subst, ◌∙◌, true≢false, append-nil, length-take-le, take_at, drop_at, take-add}
use Rattle.std.proofs.KnownBytes.{Appends-nil, Appends-trans, Consumes-nil, Consumes-kept}
use Rattle.std.proofs.lemmas.List.{take-append-le}
use Rattle.streams.specs.Moved.{Wrote}
use Rattle.streams.proofs.Moving.{wrote_on, wrote_all}
use Rattle.lines.specs.Fields.{cut_at}
use Rattle.session.specs.AllLines.{BenchState, after_lines, lines_in, begun_in, lines_of, begun_line}
use Rattle.bench_run.specs.Input.{TakenWhole}
use Rattle.bench_run.specs.Texts.{text_of_lines}
use Rattle.bench_run.specs.Turns.{TookTurn}
use Rattle.bench_run.proofs.TextLaws.{ended_text, more_text, more_state, more_kept}

-- a read, of which a failure is taken for the end: the bytes that it brought, and how many they are
pub read_or_end : {E : Type 0} (a b : Option (List ℕ)) (r : Result ℕ E) (xs : List ℕ) → ReadConsumes a b r xs → Consumes a b (take (result_unwrap_or r 0) xs)
read_or_end a b (Ok n) xs p = p.0
read_or_end a b (Err e) xs p = Consumes-kept a a b [] (Consumes-nil a) p

pub read_none : {E : Type 0} (a b : Option (List ℕ)) (r : Result ℕ E) (xs : List ℕ) → ReadConsumes a b r xs → result_unwrap_or r 0 ≡ 0 → Consumes a b []
read_none a b r xs p e = let P : ℕ → Type 0 = λ k. Consumes a b (take k xs) in subst P e (read_or_end a b r xs p)

pub read_few : {E : Type 0} (r : Result ℕ E) (m : ℕ) → IfOk r (λ n. n ≤ m) → result_unwrap_or r 0 ≤ m
read_few (Ok n) m h = h
read_few (Err e) m h = omega arith

-- the kept bytes, and then those that a read put behind them
pub kept_and_read : (input part rest : List ℕ) (k n : ℕ) → k ≤ length input → n ≤ length part → take (k + n) (take k input ++ (part ++ rest)) ≡ take k input ++ take n part
kept_and_read input part rest k n h g =
    let l = take k input ++ (part ++ rest) in
    let len : length (take k input) ≡ k = length-take-le k input h in
    let behind : take n (drop k l) ≡ take n part = ap (take n) (drop_at (take k input) (part ++ rest) k len) ∙ take-append-le n part rest g in
    take-add k n l ∙ (λ i. take_at (take k input) (part ++ rest) k len i ++ behind i)

-- what `take_input` says, of bytes x in front of a tail that it leaves as it is; k bytes are kept of those that stand there then
pub took_input : (x y after tail : List ℕ) (b c : BenchState) (o n : Option (List ℕ)) (is_open : Bool) (k : ℕ) {Room : Type 0} → x ≡ y → k ≤ length after → Room →
    Wrote o n (text_of_lines (lines_of false x) b) (Room × (is_open ≡ true)) → (Room → is_open ≡ true → TakenWhole x b c (take k after)) → TookTurn y b c o n is_open (take k (after ++ tail))
took_input x y after tail b c o n is_open k same few room w whole =
    let turn : TookTurn x b c o n is_open (take k after) = record {
      written = wrote_on o o n (text_of_lines (lines_of true x) b) [] _ _ _ (Appends-nil o) refl (ended_text x b) w (λ (v : ⊥). absurd v);
      goes_on = λ e. (wrote_all o n _ w (room, e), whole room e);
    } in
    subst (λ z. TookTurn z b c o n is_open (take k (after ++ tail))) same (subst (TookTurn x b c o n is_open) (sym (take-append-le k after tail few)) turn)

-- what `end_input` says, of bytes x
pub took_end : (x y : List ℕ) (b c : BenchState) (o n : Option (List ℕ)) (is_open : Bool) (kept : List ℕ) → x ≡ y → is_open ≡ false →
    Wrote o n (text_of_lines (lines_of true x) b) ⊥ → TookTurn (y ++ []) b c o n is_open kept
took_end x y b c o n is_open kept same closed w =
    subst (λ z. TookTurn z b c o n is_open kept) (same ∙ sym (append-nil y)) (record {
      written = w;
      goes_on = λ e. absurd (true≢false (sym e ∙ closed));
    })

-- before the first turn
pub no_turn : (b : BenchState) (o : Option (List ℕ)) →
    Appends o o (text_of_lines (lines_of false []) b) × (b ≡ after_lines (lines_of false []) b) × ([] ≡ take 4097 (begun_line []))
unfolding text_of_lines after_lines lines_in begun_in cut_at
no_turn b o = (Appends-nil o, refl, refl)

-- turns after which the lines of x that have an end are played and printed, from state b on, and the line that is begun is kept
module _ (x : List ℕ) (b c : BenchState) (o n : Option (List ℕ)) (left : c ≡ after_lines (lines_of false x) b) (printed : Appends o n (text_of_lines (lines_of false x) b)) where
  -- no more turn
  pub turns_end : Wrote o n (text_of_lines (lines_of true x) b) ⊥
  turns_end = record { front = text_of_lines (lines_of false x) b; rest = _; appended = printed; parts = ended_text x b; all = λ (v : ⊥). absurd v }

  -- a turn more, over bytes y
  module _ (y kept : List ℕ) (d : BenchState) (m : Option (List ℕ)) (is_open : Bool) (next : List ℕ) (k : kept ≡ take 4097 (begun_line x)) (t : TookTurn (kept ++ y) c d n m is_open next) where
    turn : TookTurn (take 4097 (begun_line x) ++ y) c d n m is_open next
    turn = subst (λ z. TookTurn (z ++ y) c d n m is_open next) k t

    pub last_turn : Wrote o m (text_of_lines (lines_of true (x ++ y)) b) ⊥
    last_turn = wrote_on o n m _ (text_of_lines (lines_of false x) b) _ _ [] printed (more_text x y b c left true) (append-nil _) turn.written (λ (v : ⊥). absurd v)

    pub turn_printed : is_open ≡ true → Appends o m (text_of_lines (lines_of false (x ++ y)) b)
    turn_printed e = subst (Appends o m) (more_text x y b c left false) (Appends-trans o n m _ _ printed (turn.goes_on e).0)

    pub turn_state : is_open ≡ true → d ≡ after_lines (lines_of false (x ++ y)) b
    turn_state e = more_state x y b c left d (turn.goes_on e).1.0

    pub turn_kept : is_open ≡ true → next ≡ take 4097 (begun_line (x ++ y))
    turn_kept e = (turn.goes_on e).1.1 ∙ more_kept x y b c left
