-- What the lines that are played of an input (Fold) leave: whole lines, from the first on.
use Prim.Native.Nat.{ℕ, suc, ◌+◌, ◌≤◌}
use Rattle.std.specs.Prelude.{Bool, true, false, ◌≡◌, ltb}
use Rattle.std.proofs.Common.{true≢false, sym, subst, ◌∙◌, arith, le-leb}
use mathlib.Core.List.{List, [], ◌∷◌}
use Rattle.std.proofs.Math.Path.{refl, ap}
use Rattle.std.proofs.Math.ListN.{length, take, drop, length-append}
use Rattle.std.proofs.Math.Seq.{take_all}
use Rattle.arith.specs.Cases.{pick, by_bool, by_ltb}
use Rattle.lines.specs.Fields.{cut_at, is_last}
use Rattle.lines.specs.laws.FieldLaws.{some_field}
use Rattle.session.specs.Fold.{Session, played, played_last, has_room, played_lines, played_input}
use Rattle.session.specs.AllLines.{state_of, after_lines, lines_in, lines_of, begun_in, begun_line, PlayedTo}
use Rattle.session.specs.laws.AllLinesLaws.{played_none, lines_cons, begun_cons}
use Rattle.session.specs.laws.CutLaws.{cut_last, cut_split, cut_behind, cut_short}

-- session r went on from session s over u bytes of the input
abbrev GoesOn : Bool → List ℕ → Session → Session → Type 0
GoesOn ends input s r = (u : ℕ) × (r.used ≡ s.used + u) × (PlayedTo ends input (state_of s) (state_of r) u)

module _ (ends : Bool) (input : List ℕ) (s : Session) where
  stays : GoesOn ends input s s
  stays = (0, omega arith, played_none ends input (state_of s))

  -- the bytes behind the last line end, as a line
  last_on : (l : List ℕ) → ends ≡ true → cut_at 10 input ≡ l ∷ [] → lines_in ends (l ∷ []) ≡ l ∷ [] → GoesOn ends input s (played (length l) l s)
  unfolding after_lines
  last_on l q e is =
      let all : input ≡ l = cut_last 10 input l e in
      let taken : take (length l) input ≡ input = take_all (length l) input (omega (arith, ap length all)) in
      let lines : lines_of ends (take (length l) input) ≡ l ∷ [] = ap (lines_of ends) taken ∙ ap (lines_in ends) e ∙ is in (
        length l,
        refl,
        record {
          few = omega (arith, ap length all);
          state = ap (λ ls. after_lines ls (state_of s)) (sym lines);
          line_end = λ h. absurd (omega (arith, ap length all));
          not_ended = λ f. absurd (true≢false (sym q ∙ f));
        },
      )

  -- a line, and what goes on behind it
  line_on : (l k : List ℕ) (ls : List (List ℕ)) (r : Session) → cut_at 10 input ≡ l ∷ k ∷ ls →
      GoesOn ends (drop (suc (length l)) input) (played (length l + 1) l s) r → GoesOn ends input s r
  unfolding after_lines
  line_on l k ls r e w =
      let behind = drop (suc (length l)) input in
      let u = w.0 in
      let p = w.2 in
      let cut = cut_short 10 input l k ls e u in
      let some = some_field 10 (take u behind) in
      let long : length input ≡ length l + suc (length behind) = ap length (cut_split 10 input l k ls e) ∙ length-append l (10 ∷ behind) in
      let begun : begun_line (take (suc (length l) + u) input) ≡ begun_line (take u behind)
      = ap begun_in cut ∙ begun_cons l (cut_at 10 (take u behind)) some in
      let lines : lines_of ends (take (suc (length l) + u) input) ≡ l ∷ lines_of ends (take u behind)
      = ap (lines_in ends) cut ∙ lines_cons ends l (cut_at 10 (take u behind)) some in (
        suc (length l) + u,
        omega (arith, w.1),
        record {
          few = omega (arith, p.few);
          state = p.state ∙ ap (λ x. after_lines x (state_of s)) (sym lines);
          line_end = λ h. begun ∙ p.line_end (omega arith);
          not_ended = λ f. begun ∙ p.not_ended f;
        },
      )

-- gone on or not
either : (ends : Bool) (input : List ℕ) (s r : Session) (t : Bool) → GoesOn ends input s r → GoesOn ends input s (pick t r s)
either ends input s r true w = w
either ends input s r false w = stays ends input s

-- the last part: a line where the input ends and it has a byte
last_part : (ends : Bool) (input l : List ℕ) (s : Session) → cut_at 10 input ≡ l ∷ [] → GoesOn ends input s (played_last ends l s)
unfolding played_last lines_in
last_part false input l s e = stays false input s
last_part true input l s e =
    by_bool (ltb 0 (length l)) (λ f. rw f (last_on true input s l refl e (rw f))) (λ f. rw f (stays true input s))

module _ (ends : Bool) (room : ℕ) where
  last_goes : (input l : List ℕ) (s : Session) → cut_at 10 input ≡ l ∷ [] → GoesOn ends input s (played_lines ends room (l ∷ []) s)
  unfolding played_lines
  last_goes input l s e = either ends input s (played_last ends l s) (has_room room s) (last_part ends input l s e)

  line_goes : (input l k : List ℕ) (ls : List (List ℕ)) (s : Session) → cut_at 10 input ≡ l ∷ k ∷ ls →
      GoesOn ends (drop (suc (length l)) input) (played (length l + 1) l s) (played_lines ends room (k ∷ ls) (played (length l + 1) l s)) →
      GoesOn ends input s (played_lines ends room (l ∷ k ∷ ls) s)
  unfolding played_lines
  line_goes input l k ls s e w =
      let r = played_lines ends room (k ∷ ls) (played (length l + 1) l s) in
      either ends input s r (has_room room s) (line_on ends input s l k ls r e w)

  goes_on : (F : List (List ℕ)) (input : List ℕ) (s : Session) → cut_at 10 input ≡ F → GoesOn ends input s (played_lines ends room F s)
  goes_on [] input s e = absurd (true≢false (sym (ap is_last e) ∙ some_field 10 input))
  goes_on (l ∷ []) input s e = last_goes input l s e
  goes_on (l ∷ k ∷ ls) input s e =
      line_goes input l k ls s e (goes_on (k ∷ ls) (drop (suc (length l)) input) (played (length l + 1) l s) (cut_behind 10 input l k ls e))

  -- where an answer has room and nothing was used there is no line
  last_stuck : (l : List ℕ) (s : Session) → has_room room s ≡ true → (played_lines ends room (l ∷ []) s).used ≡ s.used → lines_in ends (l ∷ []) ≡ []
  unfolding played_lines played_last lines_in
  last_stuck l s t z =
      by_bool ends
      (λ q. by_ltb 0 (length l) (λ f h. absurd (omega (arith, rw (t, q, f) at z))) (λ f _. rw (q, f)))
      (λ q. rw q)

  line_used : (l k : List ℕ) (ls : List (List ℕ)) (s : Session) → has_room room s ≡ true →
      played_lines ends room (l ∷ k ∷ ls) s ≡ played_lines ends room (k ∷ ls) (played (length l + 1) l s)
  unfolding played_lines
  line_used l k ls s t = rw t

  stuck : (F : List (List ℕ)) (input : List ℕ) (s : Session) → cut_at 10 input ≡ F → has_room room s ≡ true →
      (played_lines ends room F s).used ≡ s.used → lines_in ends F ≡ []
  stuck [] input s e t z = absurd (true≢false (sym (ap is_last e) ∙ some_field 10 input))
  stuck (l ∷ []) input s e t z = last_stuck l s t z
  stuck (l ∷ k ∷ ls) input s e t z =
      let w = goes_on (k ∷ ls) (drop (suc (length l)) input) (played (length l + 1) l s) (cut_behind 10 input l k ls e) in
      absurd (omega (arith, w.1, z, ap (λ (y : Session). y.used) (line_used l k ls s t)))

-- what `play_lines` says (x is its outcome) in these words
module _ (ends : Bool) (room : ℕ) (input : List ℕ) (s x : Session) (e : x ≡ played_input ends room input s) (zero : s.used ≡ 0) where
  pub input_played : PlayedTo ends input (state_of s) (state_of x) x.used
  input_played =
      let w = goes_on ends room (cut_at 10 input) input s refl in
      let n : w.0 ≡ x.used = omega (arith, w.1, ap (λ (y : Session). y.used) e) in
      subst (λ y. PlayedTo ends input (state_of s) (state_of y) x.used) (sym e)
      (subst (λ u. PlayedTo ends input (state_of s) (state_of (played_input ends room input s)) u) n w.2)

  pub input_stuck : length s.printed + 338 ≤ room → x.used ≡ 0 → lines_of ends input ≡ []
  input_stuck h z =
      stuck ends room (cut_at 10 input) input s refl (le-leb (length s.printed + 338) room h) (sym (ap (λ (y : Session). y.used) e) ∙ z ∙ sym zero)
