-- document 00: "how long can a log write stand behind it?" What a job waits at most where only the jobs of a given list are accepted. The papers do not
-- ask for it: an auditor who knows his jobs gets figures of it (program `audit`).
use Rattle.std.specs.Prelude.{ℕ, ◌+◌, ◌≤◌, Bool, true, false, not, ◌&&◌, ◌||◌, List, [], ◌∷◌, ◌++◌, ◌≡◌, leb, eqb}
use Rattle.arith.specs.Bounded.{some}
use Rattle.arith.specs.Cases.{pick}
use Rattle.memory.specs.declared.Task.{Task}
use Rattle.plan.specs.Questions.{sub_area_of, is_of, load_number}
use Rattle.plan.specs.Records.{plan_of}
use Rattle.plan.specs.declared.records.Plan.{Plan}
use Rattle.segment.specs.Segments.{is_lock, segment_at, own_bound}
use Rattle.rules.specs.Admission.{is_known, job_number, admits}
use Rattle.rules.specs.History.{Call, submit, releases, cancels, asks, round, History, fresh_history, step}
use Rattle.rules.specs.Layout.{priority_of, layout_of}
use Rattle.rules.specs.statements.Moments.{Run}
use Rattle.rules.specs.statements.Statements.{own_most, below_most}

-- a job or lock request of an area
pub record AreaJob : Type 0 where
  pub area : ℕ
  pub task : Task

-- The jobs that a list of calls has accepted. Call k comes at history h, and the later ones accept `later`.
abbrev pub accepted_by : Plan → Call → History → List AreaJob → List AreaJob
accepted_by p (submit a t) h later = pick (eqb (job_number p h.core a t) 0) (record { area = a; task = t } ∷ later) later
accepted_by p (releases a address n) h later = later
accepted_by p (cancels a) h later = later
accepted_by p (asks q) h later = later
accepted_by p (round answers mem) h later = later

unfoldable pub accepted_jobs : Plan → List Call → History → List AreaJob
accepted_jobs p [] h = []
accepted_jobs p (k ∷ ks) h = accepted_by p k h (accepted_jobs p ks (step p k h))

-- each of the jobs `some` is one of `all`, and none is taken twice
unfoldable pub TakenFrom : List AreaJob → List AreaJob → Type 0
TakenFrom [] all = true ≡ true
TakenFrom (j ∷ js) all = (before : List AreaJob) × (behind : List AreaJob) × (all ≡ before ++ (j ∷ behind)) × TakenFrom js (before ++ behind)

-- questions 10 and 12 to 15 of a job: it is accepted where its area is idle
abbrev pub is_admissible : Plan → AreaJob → Bool
is_admissible p j = is_known p j.area && admits p j.area j.task

-- a job of area b can rank above one of area a: another area, of no smaller priority
abbrev pub may_rank_above : Plan → ℕ → ℕ → Bool
may_rank_above p b a = not (eqb b a) && leb (priority_of p a) (priority_of p b)

-- what a job can add to above of one of area a: its own bound
abbrev pub job_above : Plan → ℕ → AreaJob → ℕ
job_above p a j =
    let t = j.task in
    pick (may_rank_above p j.area a && is_admissible p j) (own_bound (layout_of p).limit ((layout_of p).segment j.area t) t) 0

unfoldable pub jobs_above : Plan → ℕ → List AreaJob → ℕ
jobs_above p a [] = 0
jobs_above p a (j ∷ js) = job_above p a j + jobs_above p a js

-- area a has a sub-area on device d
unfoldable pub is_on : Plan → ℕ → ℕ → Bool
is_on p a d = some (λ i. is_of a (sub_area_of p.sub_areas i) && eqb (sub_area_of p.sub_areas i).device d) p.sub_area_count

-- a lock request that can be given, of a device that area a is on
abbrev pub job_locks : Plan → ℕ → AreaJob → Bool
job_locks p a j = is_lock j.task.kind && (is_admissible p j && is_on p a (segment_at p j.area j.task 0).device)

unfoldable pub any_locks : Plan → ℕ → List AreaJob → Bool
any_locks p a [] = false
any_locks p a (j ∷ js) = job_locks p a j || any_locks p a js

-- what area a's latest job waits at most, where no jobs but `js` were accepted
pub record OnlyThese (p : Plan) (js : List AreaJob) (h : History) (a : ℕ) : Type 0 where
  pub above : (h.tallies a).above ≤ jobs_above p a js
  pub locked : any_locks p a js ≡ false → (h.tallies a).locked ≡ 0
  -- so its rounds, from its acceptance to its end
  pub rounds : any_locks p a js ≡ false → (h.tallies a).rounds ≤ own_most p h a + jobs_above p a js + below_most p h a + 1

-- in whatever order they were submitted, with whatever other calls, refused ones among them
abbrev pub JobSets : (List ℕ → Run) → Type 0
JobSets r = (l : List ℕ) → load_number l ≡ 0 → (js : List AreaJob) (cs : List Call) → TakenFrom (accepted_jobs (plan_of l) cs fresh_history) js →
    (a : ℕ) → OnlyThese (plan_of l) js (r l cs).now a
