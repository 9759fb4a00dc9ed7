use mathlib.Core.Path.{ap, ◌∙◌}
use Rattle.audits.specs.Audits.{job_of_line}
use native.Mathlib.Omega.{arith}
use Rattle.lines.specs.laws.FieldLaws.{word}
use Rattle.audits.specs.laws.LineLaws.{lines_next}
use Rattle.audits.proofs.next_job.Goals as goal

pub returns : goal.returns
returns c =
    let a = c.args in
    let to = c.part_end-to.result in
    let e = c.part_end-to.ensures in
    record {
      line = word a.input.now a.at to;
      lines = lines_next a.input.now a.at to c.requires e.0 e.1 e.2;
      job = c.job_of_line.ensures ∙ ap job_of_line c.line_of.ensures;
      further = omega (arith, e.0);
    }
