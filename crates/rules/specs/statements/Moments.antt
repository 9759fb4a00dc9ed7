-- What the demands speak of: a run, that is what can be seen after each list of calls. The rules' own run is `rules_run`; the program's has the
-- jobs, devices and ages of its manager, and its own answers (program/Run).
use Rattle.std.specs.Prelude.{ℕ, List}
use Rattle.plan.specs.declared.records.Plan.{Plan}
use Rattle.rules.specs.Answers.{call_number, call_memory}
use Rattle.rules.specs.History.{Call, History, fresh_history, step, run}
use Rattle.rules.specs.Memory.{Memory}

-- what is seen at one moment, and what each next call would come to: its number, what is seen after it, and the lent memory after it
pub record Moment : Type 0 where
  pub now : History
  pub number : Call → ℕ
  pub next : Call → History
  pub memory : Call → Memory → Memory

abbrev pub Run : Type 0
Run = List Call → Moment

abbrev pub moment_of : Plan → History → Moment
moment_of p h = record { now = h; number = λ k. call_number p k h; next = λ k. step p k h; memory = λ k mem. call_memory p k h mem }

abbrev pub rules_run : Plan → Run
rules_run p cs = moment_of p (run p cs fresh_history)
