-- What is known of one job.
use Rattle.std.specs.Prelude.{ℕ, ◌≤◌, ◌<◌, Bool, true, false, List, ◌≡◌, get_or}
use Rattle.std.proofs.Common.{refl, sym, ap, ◌∙◌, arith}
use borrow.Author.Tests.{eq-eqb, ne_eqb}
use Rattle.arith.specs.Cases.{by_bool}
use Rattle.figures.specs.Figures.{bounds_of}
use Rattle.figures.specs.declared.Bounds.{Bounds}
use Rattle.manager.specs.Calls.{job_number_of}
use Rattle.manager.specs.declared.Manager.{Manager}
use Rattle.memory.specs.declared.Task.{Task}
use Rattle.rules.specs.statements.JobSets.{AreaJob, is_admissible, may_rank_above, job_above, is_on, job_locks}
use Rattle.segment.specs.Segments.{is_lock, segment_at}
use Rattle.audits.specs.Audits.{refused_facts, facts_of}
use Rattle.audits.specs.declared.Added.{Added}
use Rattle.audits.specs.laws.LoadLaws.{Loaded}
use Rattle.audits.specs.laws.TableLaws.{nothing_added, Tabled}

module _ (m : Manager) (f : Loaded m) (b : ℕ) (t : Task) (n : ℕ) (is : n ≡ job_number_of m b t) where
  abbrev job : AreaJob
  job = record { area = b; task = t }

  refused : 0 < n → is_admissible m.plan job ≡ false
  refused h = sym (f.admits b t) ∙ ne_eqb (job_number_of m b t) 0 (λ e. omega (arith, is, e))

  admissible : n ≤ 0 → is_admissible m.plan job ≡ true
  admissible h = sym (f.admits b t) ∙ eq-eqb (job_number_of m b t) 0 (omega (arith, is))

  -- a refused job adds nothing
  pub above_refused : (a : ℕ) → 0 < n → 0 ≡ job_above m.plan a job
  above_refused a h = by_bool (may_rank_above m.plan b a) (λ e. rw (e, refused h)) (λ e. rw e)

  -- nor one that cannot rank above
  pub above_under : (a : ℕ) → may_rank_above m.plan b a ≡ false → 0 ≡ job_above m.plan a job
  above_under a e = rw e

  -- any other its own bound
  pub above_own : (a : ℕ) (x : Bounds) → n ≤ 0 → may_rank_above m.plan b a ≡ true → x ≡ bounds_of m.plan b t → x.own ≡ job_above m.plan a job
  unfolding bounds_of
  above_own a x h e q = rw (e, admissible h) (ap (λ y. y.own) q)

  -- no lock request
  pub locks_other : (a : ℕ) → is_lock t.kind ≡ false → false ≡ job_locks m.plan a job
  locks_other a e = rw e

  pub locks_refused : (a : ℕ) → is_lock t.kind ≡ true → 0 < n → false ≡ job_locks m.plan a job
  locks_refused a e h = rw (e, refused h)

  pub locks_device : (a : ℕ) (r : Bool) → is_lock t.kind ≡ true → n ≤ 0 → r ≡ is_on m.plan a (segment_at m.plan b t 0).device → r ≡ job_locks m.plan a job
  locks_device a r e h q = rw (e, admissible h) q

  -- what is known of it
  pub facts_refused : (js : List AreaJob) → 0 < n → refused_facts n ≡ facts_of m js b t
  unfolding facts_of
  facts_refused js h = rw (← is, ne_eqb n 0 (λ e. omega arith))

  pub facts_accepted : (js : List AreaJob) (table : List Added) → Tabled m js table → b < 8 → n ≤ 0 → (x : Bounds) → x ≡ bounds_of m.plan b t →
      record { number = n; bounds = x; above = (get_or table b nothing_added).above; locks = (get_or table b nothing_added).locks } ≡ facts_of m js b t
  unfolding facts_of
  facts_accepted js table s k h x q = let none : n ≡ 0 = omega arith in rw (← is, eq-eqb n 0 none, (s b k).0, (s b k).1, q, none) refl
