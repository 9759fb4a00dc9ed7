use Rattle.std.proofs.Common.{refl, true}
use Rattle.session.specs.AllLines.{bench_of}
use Rattle.session.specs.laws.AllLinesLaws.{last_played}
use Rattle.bench_run.proofs.TextLaws.{lines_written}
use Rattle.bench_run.proofs.end_input.Goals as goal

pub returns : goal.returns
returns g c =
    let a = c.args in
    let q = c.answer_lines.ensures in
    record {
      store_after = λ h none. last_played a.line.now (bench_of a.manager a.image.now a.store.now) _ _ q.played_to none (q.input_value h);
      written = lines_written true _ _ _ _ _ _ _ refl q.played_to q.written (λ (v : ⊥). absurd v);
      kept_value = (refl, refl);
    }
