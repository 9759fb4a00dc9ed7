use Rattle.manager.proofs.Manager.release.Goals as goal

pub returns : goal.returns
returns c = rw c.with.ensures (record { answer_value = c.release_change-change.ensures.answer_value _; manager_value = c.release_change-change.ensures.manager_value _ })
