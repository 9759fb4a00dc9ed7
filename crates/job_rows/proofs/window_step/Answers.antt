use Rattle.std.proofs.Common.{◌≡◌, None, rules}
use Rattle.job_rows.specs.laws.JobRowLaws.{window_done}
use Rattle.job_rows.proofs.window_step.Goals as goal

pub returns : goal.returns
returns c =
    let first : c.default.result ≡ record { at = 0; last = None; segments = 0; spans = 0 } = search rules in
    λ f. rw (c.window_row.ensures, first) (window_done _ _ _ f c.requires)
