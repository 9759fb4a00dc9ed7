-- What the lines that are played of an input print.
use Rattle.std.specs.Prelude.{ℕ, suc, ◌+◌, ◌<◌, Bool, true, false, List, [], ◌∷◌, ◌++◌, ◌≡◌, ltb, length, take, drop}
use Rattle.std.proofs.Common.{refl, sym, ap, ◌∙◌, true≢false, arith, take-append-drop, length-append, length-take-le, lt-ltb, take_all, take-add, append_assoc, append-nil}
use Rattle.std.specs.declared.option.Option.{Option}
use Rattle.std.proofs.KnownBytes.{Appends-nil}
use Rattle.streams.specs.Moved.{Wrote}
use Rattle.streams.proofs.Moving.{wrote_on}
use Rattle.arith.specs.Cases.{pick, by_bool, by_leb}
use Rattle.lines.specs.Fields.{in_front, cut_at, is_last}
use Rattle.lines.specs.laws.FieldLaws.{some_field}
use Rattle.lines.specs.Lines.{line_of}
use Rattle.texts.specs.Texts.{question_line}
use Rattle.session.specs.Fold.{Session, played, played_last, has_room, played_lines, played_input}
use Rattle.manager.specs.declared.Manager.{Manager}
use Rattle.session.specs.laws.FoldLaws.{session_of}
use Rattle.session.specs.AllLines.{BenchState, state_of, bench_of, played_on, after_lines, lines_in, lines_of, begun_line, PlayedTo}
use Rattle.session.specs.Play.{played_text}
use Rattle.session.specs.laws.AllLinesLaws.{no_lines, lines_cons, lines_append, more_lines, more_begun, ended_lines, lines_left, no_end_joins, begun_open, first_none}
use Rattle.session.specs.laws.CutLaws.{cut_last, cut_behind, cut_short}
use Rattle.bench_run.specs.Texts.{text_of_lines}
use Rattle.bench_run.specs.laws.Pieces.{long_line, enough}

pub texts_append : (ls ks : List (List ℕ)) (b : BenchState) → text_of_lines (ls ++ ks) b ≡ text_of_lines ls b ++ text_of_lines ks (after_lines ls b)
unfolding text_of_lines after_lines
texts_append [] ks b = refl
texts_append (l ∷ ls) ks b =
    let text = played_text b.manager l b.memory in
    let next = played_on l b in
    ap (λ t. text ++ t) (texts_append ls ks next) ∙ sym (append_assoc text (text_of_lines ls next) (text_of_lines ks (after_lines ls next)))

pub text_none : (ls : List (List ℕ)) (b : BenchState) → ls ≡ [] → text_of_lines ls b ≡ []
unfolding text_of_lines
text_none ls b e = ap (λ k. text_of_lines k b) e

pub text_none_taken : (ends : Bool) (input : List ℕ) (b : BenchState) → text_of_lines (lines_of ends (take 0 input)) b ≡ []
text_none_taken ends input b = text_none (lines_of ends (take 0 input)) b (no_lines ends)

-- session r went on from session s over u bytes of the input, and printed the text of their lines
abbrev Prints : Bool → List ℕ → Session → Session → Type 0
Prints ends input s r = (u : ℕ) × (r.used ≡ s.used + u) × (r.printed ≡ s.printed ++ text_of_lines (lines_of ends (take u input)) (state_of s))

module _ (ends : Bool) (input : List ℕ) (s : Session) where
  stays : Prints ends input s s
  stays = (0, omega arith, sym (ap (λ t. s.printed ++ t) (text_none_taken ends input (state_of s)) ∙ append-nil s.printed))

  last_on : (l : List ℕ) → cut_at 10 input ≡ l ∷ [] → lines_in ends (l ∷ []) ≡ l ∷ [] → Prints ends input s (played (length l) l s)
  unfolding text_of_lines
  last_on l e is =
      let all : input ≡ l = cut_last 10 input l e in
      let taken : take (length l) input ≡ input = take_all (length l) input (omega (arith, ap length all)) in
      let lines : lines_of ends (take (length l) input) ≡ l ∷ [] = ap (lines_of ends) taken ∙ ap (lines_in ends) e ∙ is in
      (length l, refl, ap (λ t. s.printed ++ t) (sym (append-nil _)) ∙ ap (λ ls. s.printed ++ text_of_lines ls (state_of s)) (sym lines))

  line_on : (l k : List ℕ) (ls : List (List ℕ)) (r : Session) → cut_at 10 input ≡ l ∷ k ∷ ls →
      Prints ends (drop (suc (length l)) input) (played (length l + 1) l s) r → Prints ends input s r
  unfolding text_of_lines
  line_on l k ls r e w =
      let behind = drop (suc (length l)) input in
      let u = w.0 in
      let lines : lines_of ends (take (suc (length l) + u) input) ≡ l ∷ lines_of ends (take u behind)
      = ap (lines_in ends) (cut_short 10 input l k ls e u) ∙ lines_cons ends l (cut_at 10 (take u behind)) (some_field 10 (take u behind)) in (
        suc (length l) + u,
        omega (arith, w.1),
        w.2 ∙ append_assoc s.printed _ _ ∙ ap (λ x. s.printed ++ text_of_lines x (state_of s)) (sym lines),
      )

either : (ends : Bool) (input : List ℕ) (s r : Session) (t : Bool) → Prints ends input s r → Prints ends input s (pick t r s)
either ends input s r true w = w
either ends input s r false w = stays ends input s

last_part : (ends : Bool) (input l : List ℕ) (s : Session) → cut_at 10 input ≡ l ∷ [] → Prints ends input s (played_last ends l s)
unfolding played_last lines_in
last_part false input l s e = stays false input s
last_part true input l s e =
    by_bool (ltb 0 (length l)) (λ f. rw f (last_on true input s l e (rw f))) (λ f. rw f (stays true input s))

module _ (ends : Bool) (room : ℕ) where
  last_prints : (input l : List ℕ) (s : Session) → cut_at 10 input ≡ l ∷ [] → Prints ends input s (played_lines ends room (l ∷ []) s)
  unfolding played_lines
  last_prints input l s e = either ends input s (played_last ends l s) (has_room room s) (last_part ends input l s e)

  line_prints : (input l k : List ℕ) (ls : List (List ℕ)) (s : Session) → cut_at 10 input ≡ l ∷ k ∷ ls →
      Prints ends (drop (suc (length l)) input) (played (length l + 1) l s) (played_lines ends room (k ∷ ls) (played (length l + 1) l s)) →
      Prints ends input s (played_lines ends room (l ∷ k ∷ ls) s)
  unfolding played_lines
  line_prints input l k ls s e w =
      let r = played_lines ends room (k ∷ ls) (played (length l + 1) l s) in
      either ends input s r (has_room room s) (line_on ends input s l k ls r e w)

  prints : (F : List (List ℕ)) (input : List ℕ) (s : Session) → cut_at 10 input ≡ F → Prints ends input s (played_lines ends room F s)
  prints [] input s e = absurd (true≢false (sym (ap is_last e) ∙ some_field 10 input))
  prints (l ∷ []) input s e = last_prints input l s e
  prints (l ∷ k ∷ ls) input s e =
      line_prints input l k ls s e (prints (k ∷ ls) (drop (suc (length l)) input) (played (length l + 1) l s) (cut_behind 10 input l k ls e))

-- what `play_lines` says (x is its outcome) of what is printed
pub input_printed : (ends : Bool) (room : ℕ) (input : List ℕ) (s x : Session) → x ≡ played_input ends room input s → s.used ≡ 0 → s.printed ≡ [] →
    x.printed ≡ text_of_lines (lines_of ends (take x.used input)) (state_of s)
input_printed ends room input s x e zero none =
    let w = prints ends room (cut_at 10 input) input s refl in
    let n : w.0 ≡ x.used = omega (arith, w.1, ap (λ (y : Session). y.used) e) in
    ap (λ (y : Session). y.printed) e ∙ w.2 ∙ ap (λ t. t ++ text_of_lines (lines_of ends (take w.0 input)) (state_of s)) none
    ∙ ap (λ u. text_of_lines (lines_of ends (take u input)) (state_of s)) n

-- the text of the lines of at bytes, and of those of u bytes behind them
pub texts_on : (ends : Bool) (input : List ℕ) (b c : BenchState) (at u : ℕ) → PlayedTo ends input b c at → at < length input →
    text_of_lines (lines_of ends (take at input)) b ++ text_of_lines (lines_of ends (take u (drop at input))) c ≡ text_of_lines (lines_of ends (take (at + u) input)) b
texts_on ends input b c at u p some =
    ap (λ d. text_of_lines (lines_of ends (take at input)) b ++ text_of_lines (lines_of ends (take u (drop at input))) d) p.state
    ∙ sym (texts_append (lines_of ends (take at input)) (lines_of ends (take u (drop at input))) b)
    ∙ ap (λ ls. text_of_lines ls b) (sym (ended_lines ends (take at input) (take u (drop at input)) (p.line_end some)))
    ∙ ap (λ x. text_of_lines (lines_of ends x) b) (sym (take-add at u input))

-- the text of the lines that were played, and of those that are left
pub texts_left : (ends : Bool) (input : List ℕ) (b c : BenchState) (u : ℕ) → PlayedTo ends input b c u →
    text_of_lines (lines_of ends (take u input)) b ++ text_of_lines (lines_of ends (drop u input)) c ≡ text_of_lines (lines_of ends input) b
texts_left ends input b c u p =
    ap (λ d. text_of_lines (lines_of ends (take u input)) b ++ text_of_lines (lines_of ends (drop u input)) d) p.state
    ∙ sym (texts_append (lines_of ends (take u input)) (lines_of ends (drop u input)) b)
    ∙ ap (λ ls. text_of_lines ls b) (sym (lines_left ends input b c u p))

-- one turn of `answer_lines`: x is the input from byte `at` on, and r what `play_lines` made of it
pub turn_text : (ends : Bool) (input x out : List ℕ) (b : BenchState) (m : Manager) (image store : List ℕ) (at : ℕ) (r : Session) → x ≡ drop at input →
    r ≡ played_input ends (length out) x (session_of m image store out 0 0) → at < length input → PlayedTo ends input b (bench_of m image store) at →
    text_of_lines (lines_of ends (take at input)) b ++ r.printed ≡ text_of_lines (lines_of ends (take (at + r.used) input)) b
turn_text ends input x out b m image store at r left e some p =
    ap (λ t. text_of_lines (lines_of ends (take at input)) b ++ t)
    (input_printed ends (length out) x (session_of m image store out 0 0) r e refl refl ∙ ap (λ y. text_of_lines (lines_of ends (take r.used y)) (bench_of m image store)) left)
    ∙ texts_on ends input b (bench_of m image store) at r.used p some

-- what was written of the lines up to byte u of x, as a front of what all lines of y, which x is, print
pub lines_written : (ends : Bool) (o n : Option (List ℕ)) (x y : List ℕ) (u : ℕ) (b c : BenchState) {W V : Type 0} → x ≡ y → PlayedTo ends x b c u →
    Wrote o n (text_of_lines (lines_of ends (take u x)) b) W → (V → (lines_of ends (drop u x) ≡ []) × W) → Wrote o n (text_of_lines (lines_of ends y) b) V
lines_written ends o n x y u b c same p w all =
    let part = text_of_lines (lines_of ends (take u x)) b in
    let left = text_of_lines (lines_of ends (drop u x)) c in
    let text = text_of_lines (lines_of ends y) b in
    let parts : part ++ left ≡ text = texts_left ends x b c u p ∙ ap (λ z. text_of_lines (lines_of ends z) b) same in
    wrote_on o o n text [] text part left (Appends-nil o) refl parts w (λ v. let (none, whole) = all v in (text_none (lines_of ends (drop u x)) c none, whole))

-- a line over 4,096 bytes prints "?"
long_text : (l : List ℕ) (b : BenchState) → 4096 < length l → played_text b.manager l b.memory ≡ question_line
unfolding played_text line_of
long_text l b h = rw (lt-ltb 4096 (length l) h)

module _ (ends : Bool) (l k f : List ℕ) (b : BenchState) (h : 4096 < length l) (g : 4096 < length k) where
  longer : (w : List ℕ) → 4096 < length w → 4096 < length (w ++ f)
  longer w q = rw (length-append w f) (omega arith)

  same_line : played_text b.manager (l ++ f) b.memory ≡ played_text b.manager (k ++ f) b.memory
  same_line = long_text (l ++ f) b (longer l h) ∙ sym (long_text (k ++ f) b (longer k g))

  -- two long lines that begin the same parts
  same_text : (fs : List (List ℕ)) → text_of_lines (lines_in ends ((l ++ f) ∷ fs)) b ≡ text_of_lines (lines_in ends ((k ++ f) ∷ fs)) b
  unfolding text_of_lines lines_in
  same_text [] = last ends
    where
      last : (e : Bool) → text_of_lines (lines_in e ((l ++ f) ∷ [])) b ≡ text_of_lines (lines_in e ((k ++ f) ∷ [])) b
      last true = rw (lt-ltb 0 (length (l ++ f)) (omega (arith, longer l h)), lt-ltb 0 (length (k ++ f)) (omega (arith, longer k g))) (ap (λ t. t ++ []) same_line)
      last false = refl
  same_text (n ∷ ns) =
      let same : played_on (l ++ f) b ≡ played_on (k ++ f) b = long_line (l ++ f) b (longer l h) ∙ sym (long_line (k ++ f) b (longer k g)) in
      (λ i. same_line i ++ text_of_lines (lines_in ends (n ∷ ns)) (same i))

-- of a begun line 4,097 bytes are enough to know what is printed
module _ (l : List ℕ) (none : lines_of false l ≡ []) where
  front_open : lines_of false (take 4097 l) ≡ []
  front_open =
      first_none (lines_of false (take 4097 l)) _
      (sym (more_lines false (drop 4097 l) (take 4097 l)) ∙ ap (lines_of false) (take-append-drop 4097 l) ∙ none)

  enough_in : (ends : Bool) (F : List (List ℕ)) (b : BenchState) → 4097 < length l → is_last F ≡ false →
      text_of_lines (lines_in ends (in_front (take 4097 l) F)) b ≡ text_of_lines (lines_in ends (in_front l F)) b
  enough_in ends [] b h q = absurd (true≢false q)
  enough_in ends (f ∷ fs) b h q =
      let long : length (take 4097 l) ≡ 4097 = length-take-le 4097 l (omega arith) in
      same_text ends (take 4097 l) l f b (omega arith) (omega arith) fs

  pub enough_text : (ends : Bool) (y : List ℕ) (b : BenchState) → text_of_lines (lines_of ends (take 4097 l ++ y)) b ≡ text_of_lines (lines_of ends (l ++ y)) b
  enough_text ends y b =
      by_leb (length l) 4097
      (λ _ h. ap (λ x. text_of_lines (lines_of ends (x ++ y)) b) (take_all 4097 l h))
      (λ _ h. rw (no_end_joins (take 4097 l) y front_open, no_end_joins l y none) (enough_in ends (cut_at 10 y) b h (some_field 10 y)))

-- bytes y behind those of x, of which the begun line was kept: state c is what the lines of x left
module _ (x y : List ℕ) (b c : BenchState) (left : c ≡ after_lines (lines_of false x) b) where
  abbrev kept_and : List ℕ
  kept_and = take 4097 (begun_line x) ++ y

  pub more_text : (ends : Bool) → text_of_lines (lines_of false x) b ++ text_of_lines (lines_of ends kept_and) c ≡ text_of_lines (lines_of ends (x ++ y)) b
  more_text ends =
      let front = text_of_lines (lines_of false x) b in
      ap (λ t. front ++ t) (enough_text (begun_line x) (begun_open x) ends y c)
      ∙ ap (λ d. front ++ text_of_lines (lines_of ends (begun_line x ++ y)) d) left
      ∙ sym (texts_append (lines_of false x) (lines_of ends (begun_line x ++ y)) b)
      ∙ ap (λ ls. text_of_lines ls b) (sym (more_lines ends y x))

  pub more_state : (d : BenchState) → d ≡ after_lines (lines_of false kept_and) c → d ≡ after_lines (lines_of false (x ++ y)) b
  more_state d e =
      e ∙ (enough (begun_line x) (begun_open x) false y c).0
      ∙ ap (after_lines (lines_of false (begun_line x ++ y))) left
      ∙ sym (lines_append (lines_of false x) (lines_of false (begun_line x ++ y)) b)
      ∙ ap (λ ls. after_lines ls b) (sym (more_lines false y x))

  pub more_kept : take 4097 (begun_line kept_and) ≡ take 4097 (begun_line (x ++ y))
  more_kept = (enough (begun_line x) (begun_open x) false y c).1 ∙ ap (take 4097) (sym (more_begun false y x))

-- the text of all lines, where those that have an end were printed
pub ended_text : (x : List ℕ) (b : BenchState) →
    text_of_lines (lines_of false x) b ++ text_of_lines (lines_of true (begun_line x)) (after_lines (lines_of false x) b) ≡ text_of_lines (lines_of true x) b
ended_text x b =
    sym (texts_append (lines_of false x) (lines_of true (begun_line x)) b)
    ∙ ap (λ z. text_of_lines (lines_of false x ++ lines_of true z) b) (sym (append-nil (begun_line x)))
    ∙ ap (λ ls. text_of_lines ls b) (sym (more_lines true [] x))
    ∙ ap (λ z. text_of_lines (lines_of true z) b) (append-nil x)
