use mathlib.Core.Path.{sym, ◌∙◌}
use Rattle.close.specs.laws.Waits.{behind_own, behind_above, behind_below}
use Rattle.close.proofs.wait_behind.Goals as goal

pub returns-then-runner-area : goal.returns-then-runner-area
returns-then-runner-area c = behind_own c.args.records c.args.ages c.args.area c.args.runner c.if-runner-area.true

pub returns-then-ranks_above : goal.returns-then-ranks_above
returns-then-ranks_above c = behind_above c.args.records c.args.ages c.args.area c.args.runner c.if-runner-area.false c.priority_of-runner_priority.result c.priority_of-priority.result c.priority_of-runner_priority.ensures c.priority_of-priority.ensures c.age_of-runner_age.result c.age_of-age.result c.age_of-runner_age.ensures c.age_of-age.ensures (sym c.ranks_above.ensures ∙ c.if-ranks_above.true)

pub returns : goal.returns
returns c = behind_below c.args.records c.args.ages c.args.area c.args.runner c.if-runner-area.false c.priority_of-runner_priority.result c.priority_of-priority.result c.priority_of-runner_priority.ensures c.priority_of-priority.ensures c.age_of-runner_age.result c.age_of-age.result c.age_of-runner_age.ensures c.age_of-age.ensures (sym c.ranks_above.ensures ∙ c.if-ranks_above.false)
