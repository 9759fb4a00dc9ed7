use Prim.Native.Nat.{◌+◌, ◌-◌, ◌≤◌, min}
use lib.ListN.{length}
use mathlib.Core.Path.{◌≡◌}
use Rattle.job_rows.specs.JobRows.{too_large}
use Rattle.audits.specs.laws.TableLaws.{above_from}
use Rattle.audits.proofs.jobs_above.Given as goal

abbrev pub invariant-loop-at : goal.invariant-loop-at
invariant-loop-at l = (l.sum ≤ too_large) × (min (l.sum + above_from l.manager.plan l.a l.manager.plan.device_count l.input l.at) too_large ≡ min (above_from l.manager.plan l.a l.manager.plan.device_count l.input 0) too_large)

abbrev pub decreases-loop-at : goal.decreases-loop-at
decreases-loop-at l = length l.input - l.at
