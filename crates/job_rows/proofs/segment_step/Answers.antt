use Rattle.job_rows.proofs.segment_step.Goals as goal

pub returns-then-is_lock : goal.returns-then-is_lock
returns-then-is_lock c = λ f. c.lock_step.ensures f _
