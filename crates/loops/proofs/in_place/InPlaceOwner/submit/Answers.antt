use Rattle.std.proofs.Common.{◌∙◌}
use Rattle.loops.proofs.in_place.InPlaceOwner.submit.Goals as goal

pub returns-clause-answer_value : goal.returns-clause-answer_value
returns-clause-answer_value c = c.job_change-change.ensures.answer_value c.args.self.now.manager.wear

pub returns-clause-manager_value : goal.returns-clause-manager_value
returns-clause-manager_value c = c.write_back.ensures ∙ c.job_change-change.ensures.manager_value c.args.self.now.manager.wear
