use mathlib.Core.Path.{◌∙◌}
use Rattle.audits.proofs.number_of.Goals as goal

pub returns : goal.returns
returns c = c.answer_number.ensures ∙ c.job_change-change.ensures.answer_value c.args.manager.wear
