-- The lines by the cases that the code takes apart.
use Rattle.std.specs.Prelude.{ℕ, Option, ◌+◌, ◌-◌, ◌≤◌, ◌<◌, Bool, ◌≡◌, ltb, take}
use Rattle.std.proofs.Math.Bool.{true, false}
use Rattle.std.proofs.Common.{true≢false, ◌∙◌, arith, length-take, length-drop, length-take-le}
use Rattle.std.proofs.lemmas.Bool.{false≢true}
use mathlib.Core.List.{List, [], ◌∷◌}
use Rattle.std.proofs.Math.Path.{refl, sym, ap}
use borrow.Author.Tests.{ltb-true, lt-ltb, le-ltb, le-leb, lt-leb}
use Rattle.std.proofs.Math.ListN.{length}
use Rattle.arith.specs.Cases.{pick, by_bool, by_ltb}
use Rattle.lines.specs.Fields.{cut_at, cut_from, is_last}
use Rattle.lines.specs.declared.Line.{Line}
use Rattle.lines.specs.laws.FieldLaws.{word, fields_past, more_fields, no_fields}
use Rattle.manager.specs.Load.{loaded_manager}
use Rattle.manager.specs.declared.Manager.{Manager}
use Rattle.effects.specs.Effects.{memory_of}
use Rattle.texts.specs.Appended.{Appended}
use Rattle.texts.specs.declared.page.Page.{Page}
use Rattle.session.specs.Fold.{Session, played, played_last, played_lines, played_input, played_all}
use Rattle.session.specs.PlanText.{plan_text, open_text}
use Rattle.session.specs.Play.{line_in, played_text, played_manager, played_memory}
use Rattle.session.specs.laws.PlayLaws.{LineDone, line_done}

abbrev pub session_of : Manager → List ℕ → List ℕ → List ℕ → ℕ → ℕ → Session
session_of m image store out end used = record { manager = m; memory = memory_of image store; printed = take end out; used = used }

-- a line's answer behind what was printed
played_more : (m next : Manager) (image store image' store' out out' l : List ℕ) (end end' used used' n : ℕ) →
    next ≡ played_manager m l (memory_of image store) →
    image' ≡ (played_memory m l (memory_of image store)).image →
    store' ≡ (played_memory m l (memory_of image store)).store →
    Appended out out' end end' (played_text m l (memory_of image store)) → used' ≡ used + n →
    session_of next image' store' out' end' used' ≡ played n l (session_of m image store out end used)
played_more m next image store image' store' out out' l end end' used used' n e f g p u = rw (e, f, g, p.bytes, u)

module _ (l : List ℕ) (s : Session) where
  last_open : (ends : Bool) → ends ≡ false → s ≡ played_last ends l s
  unfolding played_last
  last_open ends e = rw e

  last_empty : (ends : Bool) → length l ≤ 0 → s ≡ played_last ends l s
  unfolding played_last
  last_empty true h = rw (le-ltb _ _ h)
  last_empty false h = refl

  last_line : (ends : Bool) → ends ≡ true → 0 < length l → played (length l) l s ≡ played_last ends l s
  unfolding played_last
  last_line ends e h = rw (e, lt-ltb _ _ h)

word_length : (l : List ℕ) (from i : ℕ) → from ≤ i → i ≤ length l → length (word l from i) ≡ i - from
word_length l from i h k = simp (length-take, length-drop) (omega arith)

-- how much of the input was used when the next line begins at byte `at`: the line end of the last line may be missing
abbrev pub used_to : ℕ → List ℕ → ℕ
used_to at input = at - (at - length input)

-- whether the part from byte `from` to byte `to` of n bytes is a line: a line end follows, or the input ends there and it has a byte
abbrev pub is_line : Bool → ℕ → ℕ → ℕ → Bool
is_line ends from to n = pick (ltb to n) true (pick ends (ltb from to) false)

-- the turns of the loop: F are the parts from some byte on
module _ (ends : Bool) (room : ℕ) (m : Manager) (image store out : List ℕ) (end used : ℕ) (few : end ≤ length out) where
  abbrev here : Session
  here = session_of m image store out end used

  printed_so_far : length (take end out) ≡ end
  printed_so_far = length-take-le end out few

  pub lines_full : room < end + 338 → (F : List (List ℕ)) → here ≡ played_lines ends room F here
  unfolding played_lines
  lines_full h [] = refl
  lines_full h (l ∷ []) = rw (printed_so_far, lt-leb (end + 338) room h)
  lines_full h (l ∷ k ∷ ls) = rw (printed_so_far, lt-leb (end + 338) room h)

  lines_last : end + 338 ≤ room → (F G : List (List ℕ)) (l : List ℕ) → F ≡ l ∷ G → is_last G ≡ true → played_last ends l here ≡ played_lines ends room F here
  unfolding played_lines
  lines_last h F [] l e q = rw (e, printed_so_far, le-leb (end + 338) room h)
  lines_last h F (k ∷ ls) l e q = absurd (false≢true q)

  lines_more : end + 338 ≤ room → (F G : List (List ℕ)) (l : List ℕ) → F ≡ l ∷ G → is_last G ≡ false →
      played_lines ends room F here ≡ played_lines ends room G (played (length l + 1) l here)
  unfolding played_lines
  lines_more h F [] l e q = absurd (true≢false q)
  lines_more h F (k ∷ ls) l e q = rw (e, printed_so_far, le-leb (end + 338) room h)

  -- the part from byte `from` to byte `to`
  module _
      (room-left : end + 338 ≤ room) (input : List ℕ) (from to : ℕ) (after : from ≤ to) (within : to ≤ length input)
      (cut : cut_from 10 input from ≡ word input from to ∷ cut_from 10 input (to + 1)) where
    abbrev line : List ℕ
    line = word input from to

    long : length line ≡ to - from
    long = word_length input from to after within

    last : length input ≤ to → played_last ends line here ≡ played_lines ends room (cut_from 10 input from) here
    last h = lines_last room-left (cut_from 10 input from) (cut_from 10 input (to + 1)) line cut (no_fields 10 input (to + 1) (omega arith))

    -- it is no line
    pub lines_none : is_line ends from to (length input) ≡ false → here ≡ played_lines ends room (cut_from 10 input from) here
    lines_none f =
        by_ltb to (length input) (λ t _. absurd (true≢false (rw t at f))) (λ t h.
        by_bool ends
        (λ q. by_ltb from to (λ u _. absurd (true≢false (rw (t, q, u) at f))) (λ u k. last_empty line here ends (omega (arith, long)) ∙ last h))
        (λ q. last_open line here ends q ∙ last h))

    -- it is one, and was played
    lines_one : is_line ends from to (length input) ≡ true → (n : ℕ) → n ≡ used_to (to + 1) input - from →
        played_lines ends room (cut_from 10 input (to + 1)) (played n line here) ≡ played_lines ends room (cut_from 10 input from) here
    unfolding played_lines
    lines_one f n e =
        by_ltb to (length input)
        (λ t h.
        let k : n ≡ length line + 1 = omega (arith, long, e) in
        ap (λ i. played_lines ends room (cut_from 10 input (to + 1)) (played i line here)) k
        ∙ sym (lines_more room-left (cut_from 10 input from) (cut_from 10 input (to + 1)) line cut (more_fields 10 input (to + 1) (omega arith))))
        (λ t h.
        let k : n ≡ length line = omega (arith, long, e) in
        let g = rw t at f in
        let some : (ends ≡ true) × (from < to) = by_bool ends (λ q. (q, ltb-true from to (rw q at g))) (λ q. absurd (false≢true (rw q at g))) in
        ap (λ F. played_lines ends room F (played n line here)) (fields_past 10 input (to + 1) (omega arith))
        ∙ ap (λ i. played i line here) k
        ∙ last_line line here ends some.0 (omega (arith, long, some.1))
        ∙ last h)

-- and one that was played on a page
pub lines_turn : (ends : Bool) (room : ℕ) (m next : Manager) (image store image' store' : List ℕ) (p q : Page) (used : ℕ) → p.end + 338 ≤ room →
    (input : List ℕ) (from to : ℕ) → from ≤ to → to ≤ length input → cut_from 10 input from ≡ word input from to ∷ cut_from 10 input (to + 1) →
    is_line ends from to (length input) ≡ true → used ≡ from → (l : Option Line) → l ≡ line_in m (word input from to) →
    LineDone l m next (memory_of image store) (memory_of image' store') p q →
    (x : Session) → played_lines ends room (cut_from 10 input from) (session_of m image store p.out.now p.end used) ≡ x →
    played_lines ends room (cut_from 10 input (to + 1)) (session_of next image' store' q.out.now q.end (used_to (to + 1) input)) ≡ x
lines_turn ends room m next image store image' store' p q used h input from to after within cut f u l e done x w =
    let line = word input from to in
    let d = line_done line l m next (memory_of image store) (memory_of image' store') e done in
    let n = used_to (to + 1) input - from in
    ap (played_lines ends room (cut_from 10 input (to + 1)))
    (played_more m next image store image' store' p.out.now q.out.now line p.end q.end used (used_to (to + 1) input) n d.0 d.1.0 d.1.1.0 d.1.1.1.appended (omega (arith, u)))
    ∙ lines_one ends room m image store p.out.now p.end used p.in_bounds h input from to after within cut f n refl
    ∙ w

-- the whole session by what was printed of the plan
pub all_refused : (plan input image store : List ℕ) {before out : List ℕ} {k : ℕ} (m : Manager) → m ≡ loaded_manager plan →
    Appended before out 0 k (open_text (length before) plan) → (338 ≤ length before → 0 < k) →
    session_of m image store out k 0 ≡ played_all plan input (length before) (memory_of image store)
unfolding played_all open_text
all_refused plan input image store {before} m f q h =
    by_ltb (length before) 338 (λ e _. rw (f, e, (rw e at q).bytes)) (λ e long. let p = rw e at q in
    rw (f, e, p.bytes, le-ltb (length (plan_text plan)) 1 (omega (arith, p.ends, h long))))

pub all_lines : (plan input image store : List ℕ) {before out : List ℕ} {k : ℕ} (m : Manager) (x : Session) → m ≡ loaded_manager plan →
    Appended before out 0 k (open_text (length before) plan) → k ≤ 0 →
    x ≡ played_input true (length out) input (session_of m image store out 0 0) → x ≡ played_all plan input (length before) (memory_of image store)
unfolding played_all open_text
all_lines plan input image store {before} {out} m x e q z p =
    by_ltb (length before) 338 (λ t h. p
    ∙ sym (lines_full true (length out) m image store out 0 0 (omega arith) (omega (arith, q.long)) (cut_at 10 input))
    ∙ rw (e, t)) (λ t _. p ∙ rw (e, q.long, t, lt-ltb (length (plan_text plan)) 1 (omega (arith, (rw t at q).ends))))
