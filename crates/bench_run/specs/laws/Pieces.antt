-- An input that comes in pieces, each taken as the bench takes it (Input): they leave what the whole input leaves.
use Rattle.std.specs.Prelude.{ℕ, ◌<◌, Bool, ◌≡◌, drop}
use Rattle.std.proofs.Math.Bool.{true, false}
use Rattle.std.proofs.Common.{true≢false, ◌∙◌, arith, length-append, take-append-drop}
use mathlib.Core.List.{List, [], ◌∷◌, ◌++◌, append-nil, append_assoc}
use Rattle.std.proofs.Math.Path.{refl, sym, ap}
use borrow.Author.Tests.{lt-ltb}
use Rattle.std.proofs.Math.ListN.{length, take}
use Rattle.std.proofs.Math.Seq.{take_all, take-append-le, length-take-le}
use Rattle.arith.specs.Cases.{by_leb}
use Rattle.lines.specs.Fields.{in_front, cut_at, is_last}
use Rattle.lines.specs.laws.FieldLaws.{some_field}
use Rattle.lines.specs.Lines.{line_of}
use Rattle.session.specs.AllLines.{BenchState, played_on, after_lines, lines_in, lines_of, begun_in, begun_line}
use Rattle.session.specs.laws.AllLinesLaws.{lines_append, no_lines, more_lines, no_end_joins, begun_open, first_none}
use Rattle.session.specs.Play.{played_manager, played_memory}

unfoldable pub concat : List (List ℕ) → List ℕ
concat [] = []
concat (p ∷ ps) = p ++ concat ps

-- pieces that come behind a begun line, one after another, and then the end (`TakenWhole`; `end_input`)
unfoldable pub after_pieces : List (List ℕ) → List ℕ → BenchState → BenchState
after_pieces [] begun b = after_lines (lines_of true begun) b
after_pieces (p ∷ ps) begun b = let x = begun ++ p in after_pieces ps (take 4097 (begun_line x)) (after_lines (lines_of false x) b)

-- a line over 4,096 bytes leaves everything
pub long_line : (l : List ℕ) (b : BenchState) → 4096 < length l → played_on l b ≡ b
unfolding played_manager played_memory line_of
long_line l b h = rw (lt-ltb 4096 (length l) h)

module _ (ends : Bool) (l k f : List ℕ) (b : BenchState) (h : 4096 < length l) (g : 4096 < length k) where
  longer : (w : List ℕ) → 4096 < length w → 4096 < length (w ++ f)
  longer w q = rw (length-append w f) (omega arith)

  -- two long lines that begin the same parts
  same_after : (fs : List (List ℕ)) → after_lines (lines_in ends ((l ++ f) ∷ fs)) b ≡ after_lines (lines_in ends ((k ++ f) ∷ fs)) b
  unfolding after_lines lines_in
  same_after [] = last ends
    where
      last : (e : Bool) → after_lines (lines_in e ((l ++ f) ∷ [])) b ≡ after_lines (lines_in e ((k ++ f) ∷ [])) b
      last true =
          rw (lt-ltb 0 (length (l ++ f)) (omega (arith, longer l h)), lt-ltb 0 (length (k ++ f)) (omega (arith, longer k g)))
          (long_line (l ++ f) b (longer l h) ∙ sym (long_line (k ++ f) b (longer k g)))
      last false = refl
  same_after (n ∷ ns) =
      ap (after_lines (lines_in ends (n ∷ ns))) (long_line (l ++ f) b (longer l h) ∙ sym (long_line (k ++ f) b (longer k g)))

-- of a begun line 4,097 bytes are enough
module _ (l : List ℕ) (none : lines_of false l ≡ []) where
  abbrev front : List ℕ
  front = take 4097 l

  front_none : lines_of false front ≡ []
  front_none =
      first_none (lines_of false front) _
      (sym (more_lines false (drop 4097 l) front) ∙ ap (lines_of false) (take-append-drop 4097 l) ∙ none)

  enough_in : (ends : Bool) (F : List (List ℕ)) (b : BenchState) → 4097 < length l → is_last F ≡ false →
      (after_lines (lines_in ends (in_front front F)) b ≡ after_lines (lines_in ends (in_front l F)) b) × (take 4097 (begun_in (in_front front F)) ≡ take 4097 (begun_in (in_front l F)))
  unfolding begun_in
  enough_in ends [] b h q = absurd (true≢false q)
  enough_in ends (f ∷ fs) b h q =
      let long : length front ≡ 4097 = length-take-le 4097 l (omega arith) in
      (same_after ends front l f b (omega arith) (omega arith) fs, begun fs)
    where
      begun : (fs : List (List ℕ)) → take 4097 (begun_in ((front ++ f) ∷ fs)) ≡ take 4097 (begun_in ((l ++ f) ∷ fs))
      begun [] =
          let long : length front ≡ 4097 = length-take-le 4097 l (omega arith) in
          take-append-le 4097 front f (omega arith) ∙ take_all 4097 front (omega arith) ∙ sym (take-append-le 4097 l f (omega arith))
      begun (n ∷ ns) = refl

  pub enough : (ends : Bool) (y : List ℕ) (b : BenchState) →
      (after_lines (lines_of ends (front ++ y)) b ≡ after_lines (lines_of ends (l ++ y)) b) × (take 4097 (begun_line (front ++ y)) ≡ take 4097 (begun_line (l ++ y)))
  enough ends y b =
      by_leb (length l) 4097
      (λ _ h. let same : front ≡ l = take_all 4097 l h in
      (ap (λ x. after_lines (lines_of ends (x ++ y)) b) same, ap (λ x. take 4097 (begun_line (x ++ y))) same))
      (λ _ h. rw (no_end_joins front y front_none, no_end_joins l y none) (enough_in ends (cut_at 10 y) b h (some_field 10 y)))

behind_begun : (ps : List (List ℕ)) (l : List ℕ) (b : BenchState) → lines_of false l ≡ [] →
    after_pieces ps (take 4097 l) b ≡ after_lines (lines_of true (l ++ concat ps)) b
unfolding after_pieces concat
behind_begun [] l b none = ap (λ x. after_lines (lines_of true x) b) (sym (append-nil (take 4097 l))) ∙ (enough l none true [] b).0
behind_begun (p ∷ ps) l b none =
    let e = enough l none false p b in
    let x = l ++ p in
    (λ i. after_pieces ps (e.1 i) (e.0 i))
    ∙ behind_begun ps (begun_line x) (after_lines (lines_of false x) b) (begun_open x)
    ∙ sym (lines_append (lines_of false x) (lines_of true (begun_line x ++ concat ps)) b)
    ∙ ap (λ ls. after_lines ls b) (sym (more_lines true (concat ps) x))
    ∙ ap (λ z. after_lines (lines_of true z) b) (append_assoc l p (concat ps))

-- However an input is cut, its pieces leave of manager, image and store what the whole input leaves.
pub pieces_join : (ps : List (List ℕ)) (b : BenchState) → after_pieces ps [] b ≡ after_lines (lines_of true (concat ps)) b
pieces_join ps b = behind_begun ps [] b (no_lines false)
