use Rattle.std.proofs.Common.{◌≡◌, ◌+◌, ◌≤◌, ◌<◌, ◌++◌, [], length, take, drop, refl, rules, arith, true≢false, sym, subst, append-nil}
use Rattle.std.specs.Io.KnownBytes.{Appends}
use Rattle.std.proofs.KnownBytes.{Appends-nil, Appends-trans}
use Rattle.streams.proofs.Moving.{wrote_on, wrote_all}
use Rattle.bench_run.specs.Texts.{text_of_lines}
use Rattle.bench_run.specs.laws.TurnLaws.{rest_is, turn_played, turn_stays, turn_none, end_none, none_at_all}
use Rattle.bench_run.proofs.TextLaws.{text_none_taken, turn_text}
use Rattle.session.specs.AllLines.{bench_of, lines_of}
use Rattle.session.specs.laws.AllLinesLaws.{played_none}
use Rattle.bench_run.proofs.answer_lines.Goals as goal

pub loop-at-init : goal.loop-at-init
loop-at-init g c =
    let a = c.args in
    let first = bench_of a.manager a.image.now a.store.now in
    (omega arith, refl, refl, refl, played_none a.ends a.input.now first, subst (Appends _ _) (sym (text_none_taken a.ends a.input.now first)) (Appends-nil _))

pub returns-then-progress-eq0 : goal.returns-then-progress-eq0
returns-then-progress-eq0 g c =
    let a = c.args in
    let l = c.loop-at in
    let p = c.play_lines-progress.ensures in
    let input = a.input.now in
    let first = bench_of a.manager a.image.now a.store.now in
    let rest = rest_is input l.at (omega arith) in
    let used : c.play_lines-progress.result.used < 1 = omega arith in
    let none : 338 ≤ length a.out.now → lines_of a.ends (drop l.at input) ≡ []
    = λ h. turn_none a.ends input _ l.out first l.next l.image l.store l.at _ rest p.used_after (omega arith) used in
    record {
      played_to = turn_stays a.ends input _ l.out first l.next l.image l.store l.at _ rest p.used_after (omega arith) l.invariant.4 used;
      input_value = λ h z. none_at_all a.ends input l.at z (none h);
      input_value_2 = λ h _. none h;
      written = record { front = text_of_lines (lines_of a.ends (take l.at input)) first; rest = []; appended = l.invariant.5; parts = append-nil _; all = λ _. refl };
    }

pub returns-then-is_err : goal.returns-then-is_err
returns-then-is_err g c =
    let a = c.args in
    let l = c.loop-at in
    let r = c.play_lines-progress in
    let p = r.ensures in
    let input = a.input.now in
    let first = bench_of a.manager a.image.now a.store.now in
    let rest = rest_is input l.at (omega arith) in
    let part = take r.result.written r.new.out in
    let front = text_of_lines (lines_of a.ends (take l.at input)) first in
    let text : front ++ part ≡ text_of_lines (lines_of a.ends (take (l.at + r.result.used) input)) first
    = turn_text a.ends input _ l.out first l.next l.image l.store l.at _ rest p.used_after (omega arith) l.invariant.4 in
    record {
      played_to = turn_played a.ends input _ l.out first l.next l.image l.store l.at _ rest p.used_after (omega arith) l.invariant.4;
      input_value = λ h z. absurd (omega (arith, c.if-progress-eq0.false));
      input_value_2 = λ h e. absurd (true≢false (sym e));
      written = wrote_on _ _ _ _ front part part [] l.invariant.5 text (append-nil part) c.write_all.ensures.wrote (λ e. absurd (true≢false (sym e)));
    }

pub loop-at-preserved : goal.loop-at-preserved
loop-at-preserved g c =
    let a = c.args in
    let l = c.loop-at in
    let r = c.play_lines-progress in
    let p = r.ensures in
    let input = a.input.now in
    let first = bench_of a.manager a.image.now a.store.now in
    let rest = rest_is input l.at (omega arith) in
    let part = take r.result.written r.new.out in
    let text = turn_text a.ends input _ l.out first l.next l.image l.store l.at _ rest p.used_after (omega arith) l.invariant.4 in (
      search rules,
      search rules,
      search rules,
      search rules,
      turn_played a.ends input _ l.out first l.next l.image l.store l.at _ rest p.used_after (omega arith) l.invariant.4,
      subst (Appends _ _) text (Appends-trans _ _ _ _ part l.invariant.5 (wrote_all _ _ part c.write_all.ensures.wrote (search rules))),
    )

pub returns : goal.returns
returns g c =
    let a = c.args in
    let l = c.loop-at in
    let none = end_none a.ends a.input.now l.at (omega arith) in
    let first = bench_of a.manager a.image.now a.store.now in
    record {
      played_to = l.invariant.4;
      input_value = λ h z. none_at_all a.ends a.input.now l.at z none;
      input_value_2 = λ h _. none;
      written = record { front = text_of_lines (lines_of a.ends (take l.at a.input.now)) first; rest = []; appended = l.invariant.5; parts = append-nil _; all = λ _. refl };
    }
