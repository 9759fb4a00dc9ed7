use Rattle.std.proofs.Common.{refl, rules, arith, false}
use Rattle.bench_run.specs.laws.TurnLaws.{taken_all, taken_all_whole}
use Rattle.bench_run.proofs.TextLaws.{lines_written}
use Rattle.bench_run.proofs.take_input.Goals as goal

pub returns : goal.returns
returns g c =
    let q = c.answer_lines-answered.ensures in
    let k = c.keep.ensures in
    record {
      taken_input = taken_all _ _ _ _ _ _ q.played_to k.value k.input_after;
      taken_whole = λ h e. taken_all_whole _ _ _ _ _ _ q.played_to k.value k.input_after (q.input_value_2 h e);
      written = lines_written false _ _ _ _ _ _ _ refl q.played_to q.written (λ v. (q.input_value_2 v.0 v.1, v.1));
      kept_bound = (omega (arith, k.value), search rules);
    }
