use Rattle.std.proofs.Common.{rules, ℕ, List, ◌≡◌, length, refl, sym, ap, ◌∙◌, arith}
use Rattle.lines.specs.Fields.{cut_from}
use Rattle.lines.specs.laws.FieldLaws.{fields_all, fields_past}
use Rattle.manager.specs.declared.Manager.{Manager}
use Rattle.session.specs.Fold.{Session, played_lines}
use Rattle.session.specs.laws.FoldLaws.{session_of, used_to, lines_full, lines_none, lines_turn}
use Rattle.texts.specs.declared.page.Page.{Page}
use Rattle.session.proofs.fold.play_lines.Goals as goal
use Rattle.session.proofs.fold.play_lines.Goals.{then-loop-at-test+else-room-ge338, else-loop-at-test, then-loop-at-test+then-room-ge338+then-not-is_line}

pub loop-at-init : goal.loop-at-init
loop-at-init c =
    let a = c.args in
    let p = c.new-page.ensures.empty in
    let zero : used_to 0 a.input.now ≡ 0 = omega arith in
    record { at_bound = omega arith; same_buffer = refl; room = ap length p.0; played = rw (p.0, p.1, zero, fields_all 10 a.input.now) }

pub loop-at-preserved : goal.loop-at-preserved
loop-at-preserved c =
    let l = c.loop-at in
    let a = c.args in
    let e = c.part_end-to in
    let used : used_to l.at a.input.now ≡ l.at = omega arith in
    let yes = sym c.is_line.ensures ∙ c.if-not-is_line.false in
    let d = c.play_line.ensures in
    record {
      at_bound = omega (arith, e.ensures.1);
      same_buffer = d.printed.same_buffer ∙ l.invariant.same_buffer;
      room = d.printed.appended.long ∙ l.invariant.room;
      played = lines_turn a.ends (length a.out.now) l.manager _ l.image l.store _ _ l.page _ (used_to l.at a.input.now) (omega arith) a.input.now l.at e.result
          e.ensures.0 e.ensures.1 e.ensures.2 yes used _ c.line_of-line.ensures d _ l.invariant.played;
    }

-- what stands on the page when the loop ends is what the lender finds
left_played : (m : Manager) (image store : List ℕ) (p : Page) {used n : ℕ} {out : List ℕ} {end : ℕ} {s : Session} → out ≡ p.out.now → end ≡ p.end → n ≡ used →
    session_of m image store p.out.now p.end used ≡ s → session_of m image store out end n ≡ s
left_played m image store p o e u h = rw (o, e, u) h

pub returns-clause-used_after : goal.returns-clause-used_after
unfolding played_lines
returns-clause-used_after c =
    let l = c.loop-at in
    let a = c.args in
    let p = l.page in
    let used : c.min.result ≡ used_to l.at a.input.now = omega (arith, c.min.ensures) in
    left_played l.manager l.image l.store p (search rules) c.written.ensures used
    (elim c.loop-at-test.branch [
      | then-loop-at-test+else-room-ge338 w ↦
          lines_full a.ends (length a.out.now) l.manager l.image l.store p.out.now p.end _ p.in_bounds (omega (arith, w.room.ensures, w.if-room-ge338.false, l.invariant.room))
          (cut_from 10 a.input.now l.at)
          ∙ l.invariant.played
      | else-loop-at-test w ↦
          ap (λ F. played_lines a.ends (length a.out.now) F (session_of l.manager l.image l.store p.out.now p.end (used_to l.at a.input.now))) (sym (fields_past 10 a.input.now l.at w.loop-at-test.false))
          ∙ l.invariant.played
      | then-loop-at-test+then-room-ge338+then-not-is_line w ↦
          let e = w.part_end-to in
          lines_none a.ends (length a.out.now) l.manager l.image l.store p.out.now p.end _ p.in_bounds (omega (arith, w.room.ensures, w.if-room-ge338.true, l.invariant.room))
          a.input.now l.at e.result e.ensures.0 e.ensures.1 e.ensures.2 (sym w.is_line.ensures ∙ w.if-not-is_line.true)
          ∙ l.invariant.played
    ])
