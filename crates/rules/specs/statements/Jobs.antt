-- document 00, demand 2: "Each job is [..] retried, cancelled and given its result by the rules of document 01"
use Rattle.std.specs.Prelude.{ℕ, suc, ◌+◌, ◌≤◌, ◌<◌, Bool, true, false, [], ◌≢◌, ◌⊎◌, ◌≡◌, leb}
use Rattle.memory.specs.declared.DeviceAnswer.{DeviceAnswer}
use Rattle.memory.specs.declared.DeviceAnswer.TheVariants as Answers
use Rattle.memory.specs.declared.JobStatus.TheVariants.{Idle, Pending, Cancelling}
use Rattle.memory.specs.declared.Task.{Task}
use Rattle.plan.specs.Questions.{device_of}
use Rattle.plan.specs.declared.records.Plan.{Plan}
use Rattle.segment.specs.Segments.{is_lock}
use Rattle.state.specs.declared.Job.{Job}
use Rattle.rules.specs.History.{Call, submit, releases, cancels, asks, round, no_tally, History}
use Rattle.rules.specs.Layout.{layout_of}
use Rattle.rules.specs.Machine.{is_pending, is_cancelling, due}
use Rattle.rules.specs.Memory.{Memory, agrees}
use Rattle.rules.specs.Round.{window_place}
use Rattle.rules.specs.statements.Pieces.{HasPlace, PieceRetries}

-- the request is done
abbrev pub is_done : DeviceAnswer → Bool
is_done Answers.Done = true
is_done Answers.Pending = false
is_done (Answers.Failed k) = false

-- the request is over: done, failed, or dropped where its "polls reach the patience"
abbrev pub is_over : ℕ → ℕ → DeviceAnswer → Bool
is_over limit polls Answers.Done = true
is_over limit polls Answers.Pending = leb limit (polls + 1)
is_over limit polls (Answers.Failed k) = true

-- no byte of the segment that is due differs, or is not 255
abbrev pub agrees_due : Plan → ℕ → Job → Memory → Bool
agrees_due p a j mem = agrees j.task.kind (due (layout_of p) a j).start.0 (window_place p a j) (due (layout_of p) a j).length mem

-- "An accepted job makes its area pending and sets processed length and counts to 0; the old result stands until the job ends.": area a's task t,
-- from history h to e
pub record JobAccepted (p : Plan) (a : ℕ) (t : Task) (h e : History) : Type 0 where
  pub status : (e.core.jobs a).status ≡ Pending
  pub task : (e.core.jobs a).task ≡ t
  pub processed : (e.core.jobs a).processed ≡ 0
  pub result : (e.core.jobs a).result ≡ (h.core.jobs a).result
  pub counts : e.tallies a ≡ no_tally
  pub none_done : e.done a ≡ []
  -- its first piece has its own retries
  pub retries : PieceRetries p a t 0 (e.core.jobs a).retries_left
  -- every byte of the job lies in a sub-area
  pub places : (x : ℕ) → x < t.length → HasPlace p a t x

-- job j is over: its task stays, and the processed length and the result are these
pub record EndsAt (x r : ℕ) (j k : Job) : Type 0 where
  pub task : k.task ≡ j.task
  pub processed : k.processed ≡ x
  pub status : k.status ≡ Idle
  pub result : k.result.0 ≡ r

-- it goes on with this processed length: task, status and result stay
pub record GoesOnAt (x : ℕ) (j k : Job) : Type 0 where
  pub task : k.task ≡ j.task
  pub processed : k.processed ≡ x
  pub status : k.status ≡ j.status
  pub result : k.result ≡ j.result

-- Area a's job j, whose request runs on device d with these polls, becomes k in a round where the device's answer is x. Of a compare or
-- blank check, `same` says that no byte differs, or is not 255.
pub record JobAnswered (p : Plan) (d a polls : ℕ) (x : DeviceAnswer) (same : Bool) (j k : Job) : Type 0 where
  -- "Pending adds 1 to the request's polls"
  pub waits : is_over (device_of p.devices d).poll_limit polls x ≡ false → k ≡ j
  -- "with a retry left the same piece is due again"
  pub retried : is_done x ≡ false → is_over (device_of p.devices d).poll_limit polls x ≡ true → is_cancelling j.status ≡ false →
      (r : ℕ) → j.retries_left ≡ suc r → GoesOnAt j.processed j k × (k.retries_left ≡ r)
  -- "otherwise the job ends with 1"
  pub given_up : is_done x ≡ false → is_over (device_of p.devices d).poll_limit polls x ≡ true → is_cancelling j.status ≡ false →
      j.retries_left ≡ 0 → EndsAt j.processed 1 j k
  -- "Every other done adds the piece to the processed length": and the next piece has its own retries
  pub next : is_done x ≡ true → same ≡ true → is_cancelling j.status ≡ false → j.processed + (due (layout_of p) a j).length < j.task.length →
      GoesOnAt (j.processed + (due (layout_of p) a j).length) j k × PieceRetries p a j.task k.processed k.retries_left
  -- "after the last piece the job ends with 0"
  pub last : is_done x ≡ true → same ≡ true → is_cancelling j.status ≡ false → j.task.length ≤ j.processed + (due (layout_of p) a j).length →
      EndsAt j.task.length 0 j k
  -- "a differing byte, or one that is not 255, ends the job with result 2"
  pub differs : is_done x ≡ true → same ≡ false → is_cancelling j.status ≡ false → EndsAt j.processed 2 j k
  -- cancelled: "when that request ends, for any cause, the job ends with result 3 and is not retried. Bytes and processed length follow the
  -- request as usual."
  pub cancelled_done : is_done x ≡ true → same ≡ true → is_cancelling j.status ≡ true → EndsAt (j.processed + (due (layout_of p) a j).length) 3 j k
  pub cancelled_differs : is_done x ≡ true → same ≡ false → is_cancelling j.status ≡ true → EndsAt j.processed 3 j k
  pub cancelled_failed : is_done x ≡ false → is_over (device_of p.devices d).poll_limit polls x ≡ true → is_cancelling j.status ≡ true →
      EndsAt j.processed 3 j k

-- Job j, of which no request runs, becomes k in a round: it stays, or it is a lock request that is given, and "ends with 0"
abbrev pub JobWaited : Job → Job → Type 0
JobWaited j k = (k ≡ j) ⊎ ((is_pending j ≡ true) × (is_lock j.task.kind ≡ true) × EndsAt j.processed 0 j k)

-- "A cancel ends a job without a running request immediately, result 3. With one running, the area stays pending": job j becomes k in an accepted
-- cancel; `held` tells whether its request runs or is suspended
pub record JobCancelled (held : Bool) (j k : Job) : Type 0 where
  pub ends : held ≡ false → EndsAt j.processed 3 j k
  pub stays : held ≡ true →
      (k.status ≡ Cancelling) × (k.task ≡ j.task) × (k.processed ≡ j.processed) × (k.retries_left ≡ j.retries_left) × (k.result ≡ j.result)

-- a call that is no round and is not of area a's job
abbrev pub OfOthers : ℕ → Call → Type 0
OfOthers a (submit b t) = b ≢ a
OfOthers a (releases b address n) = Unit {0}
OfOthers a (cancels b) = b ≢ a
OfOthers a (asks q) = Unit {0}
OfOthers a (round answers mem) = ⊥
