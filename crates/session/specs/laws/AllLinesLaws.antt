-- The lines of an input that comes in pieces: what was played of it, and what is left.
use Rattle.std.specs.Prelude.{ℕ, suc, ◌+◌, ◌-◌, ◌<◌, Bool, true, false, ◌≡◌, length, take}
use Rattle.std.proofs.Common.{true≢false, ◌∙◌, arith, take-append-drop, length-take, length-drop, drop_of_length-le, take-add}
use Rattle.std.proofs.lemmas.Bool.{false≢true}
use mathlib.Core.List.{List, [], ◌∷◌, ◌++◌, append-nil, append_assoc}
use Rattle.std.proofs.Math.Path.{refl, sym, ap}
use Rattle.std.proofs.Math.ListN.{drop}
use Rattle.std.proofs.Math.Seq.{take-length, drop-length}
use Rattle.arith.specs.Cases.{by_ltb}
use Rattle.lines.specs.Fields.{in_front, cut_at, rest, is_last}
use Rattle.lines.specs.laws.FieldLaws.{some_field}
use Rattle.session.specs.AllLines.{BenchState, played_on, after_lines, lines_in, lines_of, begun_in, begun_line, PlayedTo}
use Rattle.session.specs.laws.CutLaws.{front_joins, cut_last, cut_split, cut_behind, cut_ended}

pub lines_append : (ls ks : List (List ℕ)) (b : BenchState) → after_lines (ls ++ ks) b ≡ after_lines ks (after_lines ls b)
unfolding after_lines
lines_append [] ks b = refl
lines_append (l ∷ ls) ks b = lines_append ls ks (played_on l b)

-- no byte, no line
pub no_lines : (ends : Bool) → lines_of ends [] ≡ []
unfolding cut_at lines_in
no_lines true = refl
no_lines false = refl

-- a part that is not the last is a line
pub lines_cons : (ends : Bool) (l : List ℕ) (F : List (List ℕ)) → is_last F ≡ false → lines_in ends (l ∷ F) ≡ l ∷ lines_in ends F
unfolding lines_in
lines_cons ends l [] h = absurd (true≢false h)
lines_cons ends l (k ∷ ls) h = refl

pub begun_cons : (l : List ℕ) (F : List (List ℕ)) → is_last F ≡ false → begun_in (l ∷ F) ≡ begun_in F
unfolding begun_in
begun_cons l [] h = absurd (true≢false h)
begun_cons l (k ∷ ls) h = refl

-- More bytes: the lines of the first are played, and what they begin stands before the others.
module _ (ends : Bool) (y : List ℕ) where
  more_in : (F : List (List ℕ)) (x : List ℕ) → cut_at 10 x ≡ F →
      (lines_of ends (x ++ y) ≡ lines_in false F ++ lines_of ends (begun_in F ++ y)) × (begun_line (x ++ y) ≡ begun_line (begun_in F ++ y))
  unfolding lines_in begun_in
  more_in [] x e = absurd (true≢false (sym (ap is_last e) ∙ some_field 10 x))
  more_in (l ∷ []) x e = let q = cut_last 10 x l e in (ap (λ z. lines_of ends (z ++ y)) q, ap (λ z. begun_line (z ++ y)) q)
  more_in (l ∷ k ∷ ls) x e =
      let r = drop (suc (length l)) x in
      let ih = more_in (k ∷ ls) r (cut_behind 10 x l k ls e) in
      let cut : cut_at 10 (x ++ y) ≡ l ∷ cut_at 10 (r ++ y)
      = ap (λ z. cut_at 10 (z ++ y)) (cut_split 10 x l k ls e) ∙ ap (cut_at 10) (append_assoc l (10 ∷ r) y) ∙ cut_ended 10 x l k ls e (r ++ y) in
      let some = some_field 10 (r ++ y) in (
        ap (lines_in ends) cut ∙ lines_cons ends l (cut_at 10 (r ++ y)) some ∙ ap (λ z. l ∷ z) ih.0,
        ap begun_in cut ∙ begun_cons l (cut_at 10 (r ++ y)) some ∙ ih.1,
      )

  pub more_lines : (x : List ℕ) → lines_of ends (x ++ y) ≡ lines_of false x ++ lines_of ends (begun_line x ++ y)
  more_lines x = (more_in (cut_at 10 x) x refl).0

  pub more_begun : (x : List ℕ) → begun_line (x ++ y) ≡ begun_line (begun_line x ++ y)
  more_begun x = (more_in (cut_at 10 x) x refl).1

-- where nothing is begun, the end of the input changes nothing
ended_in : (ends : Bool) (F : List (List ℕ)) → begun_in F ≡ [] → lines_in ends F ≡ lines_in false F
unfolding lines_in begun_in
ended_in ends [] h = refl
ended_in true (l ∷ []) h = rw h
ended_in false (l ∷ []) h = refl
ended_in ends (l ∷ k ∷ ls) h = ap (λ z. l ∷ z) (ended_in ends (k ∷ ls) h)

pub ended_lines : (ends : Bool) (x y : List ℕ) → begun_line x ≡ [] → lines_of ends (x ++ y) ≡ lines_of ends x ++ lines_of ends y
ended_lines ends x y h =
    more_lines ends y x ∙ (λ i. sym (ended_in ends (cut_at 10 x) h) i ++ lines_of ends (h i ++ y))

pub ended_begun : (x y : List ℕ) → begun_line x ≡ [] → begun_line (x ++ y) ≡ begun_line y
ended_begun x y h = more_begun false y x ∙ ap (λ z. begun_line (z ++ y)) h

module _ (ends : Bool) (input : List ℕ) where
  pub played_none : (b : BenchState) → PlayedTo ends input b b 0
  unfolding after_lines cut_at begun_in
  played_none b = record { few = omega arith; state = ap (λ ls. after_lines ls b) (sym (no_lines ends)); line_end = λ _. refl; not_ended = λ _. refl }

  module _ (b c : BenchState) (at : ℕ) (p : PlayedTo ends input b c at) (some : at < length input) where
    -- the input goes on behind what was played
    begun_behind : (u : ℕ) → begun_line (take (at + u) input) ≡ begun_line (take u (drop at input))
    begun_behind u = ap begun_line (take-add at u input) ∙ ended_begun (take at input) (take u (drop at input)) (p.line_end some)

    pub played_on_lem : (d : BenchState) (u : ℕ) → PlayedTo ends (drop at input) c d u → PlayedTo ends input b d (at + u)
    played_on_lem d u q =
        let long : length (drop at input) ≡ length input - at = length-drop at input in
        record {
          few = omega (arith, q.few);
          state = q.state
              ∙ ap (after_lines (lines_of ends (take u (drop at input)))) p.state
              ∙ sym (lines_append (lines_of ends (take at input)) (lines_of ends (take u (drop at input))) b)
              ∙ ap (λ ls. after_lines ls b) (sym (ended_lines ends (take at input) (take u (drop at input)) (p.line_end some)))
              ∙ ap (λ x. after_lines (lines_of ends x) b) (sym (take-add at u input));
          line_end = λ h. begun_behind u ∙ q.line_end (omega arith);
          not_ended = λ f. begun_behind u ∙ q.not_ended f;
        }

  -- the lines of the input are those that were played, and those of what is left
  pub lines_left : (b c : BenchState) (u : ℕ) → PlayedTo ends input b c u → lines_of ends input ≡ lines_of ends (take u input) ++ lines_of ends (drop u input)
  lines_left b c u p =
      by_ltb u (length input)
      (λ _ h. ap (lines_of ends) (sym (take-append-drop u input)) ∙ ended_lines ends (take u input) (drop u input) (p.line_end h))
      (λ _ h. let all : u ≡ length input = omega (arith, p.few) in
      rw (all, take-length, drop-length, no_lines ends) (sym (append-nil (lines_of ends input))))

  -- where no line is left, all lines of the input were played
  pub all_played : (b c : BenchState) (u : ℕ) → PlayedTo ends input b c u → lines_of ends (drop u input) ≡ [] → c ≡ after_lines (lines_of ends input) b
  all_played b c u p h =
      p.state ∙ ap (λ ls. after_lines ls b) (sym (lines_left b c u p ∙ ap (λ ls. lines_of ends (take u input) ++ ls) h ∙ append-nil (lines_of ends (take u input))))

-- bytes without a line end
module _ (x : List ℕ) (none : lines_of false x ≡ []) where
  no_end_in : (F : List (List ℕ)) → cut_at 10 x ≡ F → lines_in false F ≡ [] → begun_in F ≡ x
  unfolding lines_in begun_in
  no_end_in [] e h = absurd (true≢false (sym (ap is_last e) ∙ some_field 10 x))
  no_end_in (l ∷ []) e h = sym (cut_last 10 x l e)
  no_end_in (l ∷ k ∷ ls) e h = absurd (false≢true (ap is_last h))

  -- are all begun
  pub begun_all : begun_line x ≡ x
  begun_all = no_end_in (cut_at 10 x) refl none

-- one part, then
last_in_lem : (F : List (List ℕ)) → lines_in false F ≡ [] → is_last (rest F) ≡ true
unfolding lines_in
last_in_lem [] h = refl
last_in_lem (l ∷ []) h = refl
last_in_lem (l ∷ k ∷ ls) h = absurd (false≢true (ap is_last h))

pub no_end_joins : (x y : List ℕ) → lines_of false x ≡ [] → cut_at 10 (x ++ y) ≡ in_front x (cut_at 10 y)
no_end_joins x y none = front_joins 10 x y (last_in_lem (cut_at 10 x) none)

-- a line that is begun has no line end
pub begun_open : (x : List ℕ) → lines_of false (begun_line x) ≡ []
unfolding lines_in begun_in
begun_open x = open_in (cut_at 10 x) x refl
  where
    open_in : (F : List (List ℕ)) (x : List ℕ) → cut_at 10 x ≡ F → lines_of false (begun_in F) ≡ []
    open_in [] x e = no_lines false
    open_in (l ∷ []) x e = ap (lines_of false) (sym (cut_last 10 x l e)) ∙ ap (lines_in false) e
    open_in (l ∷ k ∷ ls) x e = open_in (k ∷ ls) (drop (suc (length l)) x) (cut_behind 10 x l k ls e)

-- what is left of an input of which no more lines can be played is the line that is begun
pub begun_left : (x : List ℕ) (b c : BenchState) (u : ℕ) → PlayedTo false x b c u → lines_of false (drop u x) ≡ [] → begun_line x ≡ drop u x
begun_left x b c u p none =
    ap begun_line (sym (take-append-drop u x)) ∙ ended_begun (take u x) (drop u x) (p.not_ended refl) ∙ begun_all (drop u x) none

pub first_none : (ls ks : List (List ℕ)) → ls ++ ks ≡ [] → ls ≡ []
first_none [] ks e = refl
first_none (l ∷ ls) ks e = absurd (false≢true (ap is_last e))

-- the last line, which no line end closes: it is played, or it has no byte
pub last_played : (x : List ℕ) (b c : BenchState) (u : ℕ) → PlayedTo true x b c u → lines_of false x ≡ [] → (u ≡ 0 → lines_of true x ≡ []) →
    c ≡ after_lines (lines_of true x) b
last_played x b c u p none stuck =
    all_played true x b c u p (by_ltb u (length x) (λ _ h.
    let whole : lines_of false (take u x) ++ lines_of false (begun_line (take u x) ++ drop u x) ≡ []
    = sym (more_lines false (drop u x) (take u x)) ∙ ap (lines_of false) (take-append-drop u x) ∙ none in
    let empty : take u x ≡ [] = sym (begun_all (take u x) (first_none _ _ whole)) ∙ p.line_end h in
    let zero : u ≡ 0 = omega (arith, sym (length-take u x) ∙ ap length empty) in
    ap (λ k. lines_of true (drop k x)) zero ∙ stuck zero)
    (λ _ h. ap (lines_of true) (drop_of_length-le x {i = u} h) ∙ no_lines true))
