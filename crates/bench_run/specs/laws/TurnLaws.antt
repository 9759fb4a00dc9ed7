-- The turns of `answer_lines`, what `take_input` keeps, and the first image.
use Rattle.std.specs.Prelude.{ℕ, zero, suc, ◌+◌, ◌-◌, ◌≤◌, ◌<◌, min, Bool, false, List, [], ◌∷◌, ◌++◌, ◌≡◌, refl, length, take, drop, replicate}
use Rattle.std.proofs.Common.{sym, ap, subst, ◌∙◌, arith, length-take, length-drop, drop_of_length-le, take_all}
use Rattle.manager.specs.declared.Manager.{Manager}
use Rattle.session.specs.AllLines.{BenchState, state_of, bench_of, lines_of, PlayedTo}
use Rattle.session.specs.laws.AllLinesLaws.{no_lines, played_on_lem, all_played, begun_left}
use Rattle.session.specs.Fold.{Session, played_input}
use Rattle.session.specs.laws.FoldLaws.{session_of}
use Rattle.session.specs.laws.InputLaws.{input_played, input_stuck}
use Rattle.bench_run.specs.Input.{TakenInput, TakenWhole}
use Rattle.buffers.specs.laws.KeepLaws.{kept_front}

-- `&input[at..]`
pub rest_is : (input : List ℕ) (at : ℕ) → at ≤ length input → take (length input - at) (drop at input) ≡ drop at input
rest_is input at h = take_all (length input - at) (drop at input) (rw (length-drop at input) (omega arith))

-- one turn of `answer_lines`: x is the input from byte `at` on, and r what `play_lines` made of it
module _ (ends : Bool) (input x out : List ℕ) (b : BenchState) (m : Manager) (image store : List ℕ) (at : ℕ) (r : Session) (left : x ≡ drop at input)
    (e : r ≡ played_input ends (length out) x (session_of m image store out 0 0)) where
  pub turn_played : at < length input → PlayedTo ends input b (bench_of m image store) at → PlayedTo ends input b (state_of r) (at + r.used)
  turn_played some p =
      played_on_lem ends input b (bench_of m image store) at p some (state_of r) r.used
      (subst (λ y. PlayedTo ends y (bench_of m image store) (state_of r) r.used) left (input_played ends (length out) x (session_of m image store out 0 0) r e refl))

  -- where nothing was used
  pub turn_stays : at < length input → PlayedTo ends input b (bench_of m image store) at → r.used < 1 → PlayedTo ends input b (state_of r) at
  turn_stays some p z =
      let same : at + r.used ≡ at = omega arith in
      subst (λ u. PlayedTo ends input b (state_of r) u) same (turn_played some p)

  pub turn_none : 338 ≤ length out → r.used < 1 → lines_of ends (drop at input) ≡ []
  turn_none h z =
      ap (lines_of ends) (sym left) ∙ input_stuck ends (length out) x (session_of m image store out 0 0) r e refl (omega arith) (omega arith)

module _ (ends : Bool) (input : List ℕ) (at : ℕ) where
  -- nothing is left behind the end
  pub end_none : length input ≤ at → lines_of ends (drop at input) ≡ []
  end_none h = ap (lines_of ends) (drop_of_length-le input {i = at} h) ∙ no_lines ends

  -- nothing was used, and nothing is left
  pub none_at_all : at ≡ 0 → lines_of ends (drop at input) ≡ [] → lines_of ends input ≡ []
  none_at_all z h = ap (λ k. lines_of ends (drop k input)) (sym z) ∙ h

-- `take_input`: x is the filled part of the input, of which u bytes were used; r bytes are kept
module _ (input after x : List ℕ) (filled u r : ℕ) (b c : BenchState) (part : x ≡ take filled input) (fits : filled ≤ length input) (p : PlayedTo false x b c u)
    (e : r ≡ min 4097 (filled - u)) (kept : after ≡ take r (drop u input) ++ drop r input) where
  pub few_used : u ≤ filled
  few_used = omega (arith, p.few, ap length part, length-take filled input)

  pub taken_input : TakenInput (take filled input) b c (take r after)
  taken_input = (u, subst (λ y. PlayedTo false y b c u) part p, kept_front after input u r filled few_used fits e kept)

  pub taken_whole : lines_of false (drop u x) ≡ [] → TakenWhole (take filled input) b c (take r after)
  taken_whole none =
      let y = take filled input in
      let q = subst (λ z. PlayedTo false z b c u) part p in
      let left : lines_of false (drop u y) ≡ [] = ap (λ z. lines_of false (drop u z)) (sym part) ∙ none in
      (all_played false y b c u q left, kept_front after input u r filled few_used fits e kept ∙ ap (take 4097) (sym (begun_left y b c u q left)))

-- and where all of the input is filled
module _ (input after : List ℕ) (u r : ℕ) (b c : BenchState) (p : PlayedTo false input b c u)
    (e : r ≡ min 4097 (length input - u)) (kept : after ≡ take r (drop u input) ++ drop r input) where
  filled_all : take (length input) input ≡ input
  filled_all = take_all (length input) input (omega arith)

  pub taken_all : TakenInput input b c (take r after)
  taken_all = subst (λ x. TakenInput x b c (take r after)) filled_all (taken_input input after input (length input) u r b c (sym filled_all) (omega arith) p e kept)

  pub taken_all_whole : lines_of false (drop u input) ≡ [] → TakenWhole input b c (take r after)
  taken_all_whole none = subst (λ x. TakenWhole x b c (take r after)) filled_all (taken_whole input after input (length input) u r b c (sym filled_all) (omega arith) p e kept none)

-- a part of a list of one value
alike : (n k b : ℕ) → take n (replicate k b) ≡ replicate (length (take n (replicate k b))) b
alike zero k b = refl
alike (suc n) zero b = refl
alike (suc n) (suc k) b = ap (λ l. b ∷ l) (alike n k b)

pub part_alike : (l : List ℕ) (n k b : ℕ) → l ≡ replicate k b → take n l ≡ replicate (length (take n l)) b
part_alike l n k b e = subst (λ x. take n x ≡ replicate (length (take n x)) b) (sym e) (alike n k b)
