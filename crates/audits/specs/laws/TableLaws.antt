-- What the jobs of a list add, one line at a time.
use Rattle.std.specs.Prelude.{Some, None, ℕ, ◌+◌, ◌≤◌, ◌<◌, min, Bool, false, ◌||◌, List, ◌∷◌, ◌≡◌, length, get_or, set}
use Rattle.std.proofs.Common.{ap, ◌∙◌, arith, get_or-set_same, get_or-set_other}
use Rattle.arith.specs.Cases.{by_eqb}
use Rattle.job_rows.specs.JobRows.{too_large}
use Rattle.manager.specs.declared.Manager.{Manager}
use Rattle.plan.specs.declared.records.Plan.{Plan}
use Rattle.rules.specs.statements.JobSets.{AreaJob, job_above, jobs_above, job_locks, any_locks}
use Rattle.audits.specs.Audits.{jobs_in, lines_from}
use Rattle.audits.specs.declared.JobAt.{JobAt}
use Rattle.audits.specs.declared.Added.{Added}
use Rattle.audits.specs.declared.ListedJob.{ListedJob}
use Rattle.audits.specs.laws.LineLaws.{NextJob, lines_none}

abbrev pub nothing_added : Added
nothing_added = record { above = 0; locks = false }

-- the figures of the areas below n
abbrev pub TabledTo : Manager → List AreaJob → List Added → ℕ → Type 0
TabledTo m js table n =
    (a : ℕ) → a < n → ((get_or table a nothing_added).above ≡ min (jobs_above m.plan a js) too_large) × ((get_or table a nothing_added).locks ≡ any_locks m.plan a js)

-- of each area
abbrev pub Tabled : Manager → List AreaJob → List Added → Type 0
Tabled m js table = TabledTo m js table 8

-- the jobs from a line on
module _ (input : List ℕ) (at devices : ℕ) (r : JobAt) (n : NextJob input at devices r) where
  pub no_job_lem : r.job ≡ None → jobs_in devices (lines_from input at) ≡ jobs_in devices (lines_from input r.next)
  unfolding jobs_in
  no_job_lem e = rw (n.lines, ← n.job, e)

  pub one_job : (j : ListedJob) → r.job ≡ Some j →
      jobs_in devices (lines_from input at) ≡ record { area = j.area; task = j.task } ∷ jobs_in devices (lines_from input r.next)
  unfolding jobs_in
  one_job j e = rw (n.lines, ← n.job, e)

-- what the jobs from byte `at` on add to above of area a
abbrev pub above_from : Plan → ℕ → ℕ → List ℕ → ℕ → ℕ
above_from p a devices input at = jobs_above p a (jobs_in devices (lines_from input at))

-- whether one of them locks a device of area a
abbrev pub locks_from : Plan → ℕ → ℕ → List ℕ → ℕ → Bool
locks_from p a devices input at = any_locks p a (jobs_in devices (lines_from input at))

module _ (p : Plan) (a : ℕ) (input : List ℕ) (at devices : ℕ) (r : JobAt) (n : NextJob input at devices r) where
  pub above_pass : r.job ≡ None → above_from p a devices input at ≡ above_from p a devices input r.next
  above_pass e = ap (jobs_above p a) (no_job_lem input at devices r n e)

  pub above_more : (j : ListedJob) → r.job ≡ Some j →
      above_from p a devices input at ≡ job_above p a (record { area = j.area; task = j.task }) + above_from p a devices input r.next
  unfolding jobs_above
  above_more j e = rw (one_job input at devices r n j e)

  pub locks_pass : r.job ≡ None → locks_from p a devices input at ≡ locks_from p a devices input r.next
  locks_pass e = ap (any_locks p a) (no_job_lem input at devices r n e)

  pub locks_more : (j : ListedJob) → r.job ≡ Some j →
      locks_from p a devices input at ≡ (job_locks p a (record { area = j.area; task = j.task }) || locks_from p a devices input r.next)
  unfolding any_locks
  locks_more j e = rw (one_job input at devices r n j e)

-- behind the last line there is nothing
pub above_end : (p : Plan) (a devices : ℕ) (input : List ℕ) (at : ℕ) → length input ≤ at → above_from p a devices input at ≡ 0
unfolding jobs_above jobs_in
above_end p a devices input at h = rw (lines_none input at h)

pub locks_end : (p : Plan) (a devices : ℕ) (input : List ℕ) (at : ℕ) → length input ≤ at → locks_from p a devices input at ≡ false
unfolding any_locks jobs_in
locks_end p a devices input at h = rw (lines_none input at h)

-- one area more
pub tabled_more : (m : Manager) (js : List AreaJob) (table : List Added) (n : ℕ) (x : Added) → n < length table →
    x.above ≡ min (jobs_above m.plan n js) too_large → x.locks ≡ any_locks m.plan n js → TabledTo m js table n → TabledTo m js (set table n x) (n + 1)
tabled_more m js table n x h e f t a l =
    by_eqb a n
    (λ _ q. rw q (let same = get_or-set_same table n x nothing_added h in (ap (λ y. y.above) same ∙ e, ap (λ y. y.locks) same ∙ f)))
    (λ _ q. let old = t a (omega arith) in let other = get_or-set_other table n a x nothing_added q in (ap (λ y. y.above) other ∙ old.0, ap (λ y. y.locks) other ∙ old.1))
