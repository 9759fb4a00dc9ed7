-- A line by the cases that the code takes apart.
use Rattle.std.specs.Prelude.{ℕ, Option, Some, List, ◌≡◌, refl}
use Rattle.std.proofs.Common.{sym, ap, ◌∙◌}
use Rattle.texts.specs.Pages.{Prints}
use Rattle.texts.specs.declared.page.Page.{Page}
use Rattle.lines.specs.declared.Line.{Line}
use Rattle.lines.specs.declared.LineCall.{LineCall}
use Rattle.lines.specs.declared.LineCall.TheVariants as Calls
use Rattle.lines.specs.declared.Target.{Target}
use Rattle.manager.specs.Calls.{job_number_of, after_job, release_number_of, after_release, cancel_number_of, after_cancel}
use Rattle.manager.specs.declared.Manager.{Manager}
use Rattle.memory.specs.declared.JobType.{JobType}
use Rattle.memory.specs.declared.JobType.TheVariants.{Write, Read, Compare, Erase, BlankCheck, Lock}
use Rattle.rules.specs.Memory.{Memory}
use Rattle.session.specs.declared.play.PlainCall.{PlainCall}
use Rattle.session.specs.declared.play.PlainCall.TheVariants as Plain
use Rattle.session.specs.Play.{address_in, task_in, number_of_call, after_call, text_of_line, after_line, memory_after_line, line_in, played_text, played_manager, played_memory}

-- a call by the function that carries it out
abbrev pub job_of : JobType → Target → PlainCall
job_of k t = Plain.Job t.area (task_in k t)

abbrev pub plain_of : LineCall → PlainCall
plain_of (Calls.Write t) = job_of Write t
plain_of (Calls.Read t) = job_of Read t
plain_of (Calls.Compare t) = job_of Compare t
plain_of (Calls.Erase t) = job_of Erase t
plain_of (Calls.BlankCheck t) = job_of BlankCheck t
plain_of (Calls.Lock t) = job_of Lock t
plain_of (Calls.Release t) = Plain.Release t
plain_of (Calls.Cancel a) = Plain.Cancel a

abbrev pub number_of_plain : PlainCall → Manager → ℕ
number_of_plain (Plain.Job a t) m = job_number_of m a t
number_of_plain (Plain.Release t) m = release_number_of m t.area (address_in t) t.length
number_of_plain (Plain.Cancel a) m = cancel_number_of m a

abbrev pub after_plain : PlainCall → Manager → Manager
after_plain (Plain.Job a t) m = after_job m a t
after_plain (Plain.Release t) m = after_release m t.area (address_in t) t.length
after_plain (Plain.Cancel a) m = after_cancel m a

plain_same : (x : LineCall) (m : Manager) → (number_of_plain (plain_of x) m ≡ number_of_call x m) × (after_plain (plain_of x) m ≡ after_call x m)
plain_same (Calls.Write t) m = (refl, refl)
plain_same (Calls.Read t) m = (refl, refl)
plain_same (Calls.Compare t) m = (refl, refl)
plain_same (Calls.Erase t) m = (refl, refl)
plain_same (Calls.BlankCheck t) m = (refl, refl)
plain_same (Calls.Lock t) m = (refl, refl)
plain_same (Calls.Release t) m = (refl, refl)
plain_same (Calls.Cancel a) m = (refl, refl)

-- what the function did to the plain call is what the call does
pub plain_done : (x : LineCall) (y z : PlainCall) → y ≡ plain_of x → y ≡ z → (m : Manager) (n : ℕ) (next : Manager) → n ≡ number_of_plain z m → next ≡ after_plain z m →
    (n ≡ number_of_call x m) × (next ≡ after_call x m)
plain_done x y z e f m n next g h =
    let k = sym f ∙ e in
    let same = plain_same x m in
    (g ∙ ap (λ w. number_of_plain w m) k ∙ same.0, h ∙ ap (λ w. after_plain w m) k ∙ same.1)

-- what a line did: the manager that it left, the lent memory, and the text that it printed
pub record LineDone (l : Option Line) (m next : Manager) (lent memory : Memory) (before after : Page) : Type 0 where
  pub manager : next ≡ after_line l m lent
  pub image : memory.image ≡ (memory_after_line l m lent).image
  pub store : memory.store ≡ (memory_after_line l m lent).store
  pub printed : Prints 338 before after (text_of_line l m lent)

pub line_is : (l : Option Line) (x y : Line) (m next : Manager) (lent memory : Memory) {p q : Page} → l ≡ Some x → x ≡ y →
    LineDone (Some y) m next lent memory p q → LineDone l m next lent memory p q
line_is l x y m next lent memory e f d = rw (e, f) d

-- the line that the bytes say
pub line_done : (bytes : List ℕ) (l : Option Line) (m next : Manager) (lent memory : Memory) {p q : Page} → l ≡ line_in m bytes →
    LineDone l m next lent memory p q →
    (next ≡ played_manager m bytes lent)
    × ((memory.image ≡ (played_memory m bytes lent).image)
    × ((memory.store ≡ (played_memory m bytes lent).store)
    × Prints 338 p q (played_text m bytes lent)))
unfolding played_text played_manager played_memory
line_done bytes l m next lent memory e d = let f = rw e at d in (f.manager, (f.image, (f.store, f.printed)))
