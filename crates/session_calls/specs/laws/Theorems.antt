-- A session is a run of the program (program/Run) over the calls that its lines are: so all that holds of runs holds of it.
use Rattle.std.specs.Prelude.{ℕ, Option, Some, None, Bool, true, List, [], ◌∷◌, ◌++◌, ◌≡◌, refl, ltb, take}
use Rattle.std.proofs.Common.{sym, ap, subst, ◌∙◌}
use Rattle.arith.specs.Cases.{by_bool}
use Rattle.lines.specs.declared.Line.{Line}
use Rattle.lines.specs.declared.Line.TheVariants as Lines
use Rattle.lines.specs.declared.LineCall.{LineCall}
use Rattle.lines.specs.declared.LineCall.TheVariants as Calls
use Rattle.manager.specs.Load.{loaded_manager}
use Rattle.manager.specs.declared.Manager.{Manager}
use Rattle.plan.specs.Questions.{load_number}
use Rattle.program.specs.laws.Program.{all_calls}
use Rattle.program.specs.Run.{manager_after, manager_memory, run_of}
use Rattle.rules.specs.History.{Call}
use Rattle.rules.specs.Memory.{Memory}
use Rattle.session.specs.AllLines.{BenchState, state_of, played_on, after_lines, lines_of, PlayedTo}
use Rattle.session.specs.laws.AllLinesLaws.{no_lines}
use Rattle.session.specs.Fold.{Session, opened, is_empty, played_input, played_all}
use Rattle.session.specs.laws.InputLaws.{input_played}
use Rattle.session.specs.PlanText.{plan_text}
use Rattle.session.specs.Play.{after_call, after_line, memory_after_line, line_in, played_manager, played_memory}
use Rattle.session_calls.specs.Definitions.{call_in, calls_of_line, memory_left, calls_of, ran_of, ran_lines, loaded, session_lines, DemandsHold}

ran_append : (cs ds : List Call) (b : BenchState) → ran_of (cs ++ ds) b ≡ ran_of ds (ran_of cs b)
unfolding run_of memory_left
ran_append [] ds b = refl
ran_append (c ∷ cs) ds b = ran_append cs ds (record { manager = manager_after c b.manager; memory = manager_memory c b.manager b.memory })

call_ran : (x : LineCall) (m : Manager) → after_call x m ≡ manager_after (call_in x) m
call_ran (Calls.Write t) m = refl
call_ran (Calls.Read t) m = refl
call_ran (Calls.Compare t) m = refl
call_ran (Calls.Erase t) m = refl
call_ran (Calls.BlankCheck t) m = refl
call_ran (Calls.Lock t) m = refl
call_ran (Calls.Release t) m = refl
call_ran (Calls.Cancel a) m = refl

call_lends : (x : LineCall) (m : Manager) (lent : Memory) → lent ≡ manager_memory (call_in x) m lent
call_lends (Calls.Write t) m lent = refl
call_lends (Calls.Read t) m lent = refl
call_lends (Calls.Compare t) m lent = refl
call_lends (Calls.Erase t) m lent = refl
call_lends (Calls.BlankCheck t) m lent = refl
call_lends (Calls.Lock t) m lent = refl
call_lends (Calls.Release t) m lent = refl
call_lends (Calls.Cancel a) m lent = refl

line_ran : (l : Option Line) (m : Manager) (lent : Memory) →
    (after_line l m lent ≡ run_of (calls_of_line l lent) m) × (memory_after_line l m lent ≡ memory_left (calls_of_line l lent) m lent)
unfolding run_of memory_left
line_ran None m lent = (refl, refl)
line_ran (Some (Lines.Call x)) m lent = (call_ran x m, call_lends x m lent)
line_ran (Some (Lines.Info a)) m lent = (refl, refl)
line_ran (Some (Lines.Round a b c d)) m lent = (refl, refl)

-- a line is the run of its calls
played_ran : (l : List ℕ) (b : BenchState) → played_on l b ≡ ran_of (calls_of_line (line_in b.manager l) b.memory) b
unfolding played_manager played_memory
played_ran l b =
    let p = line_ran (line_in b.manager l) b.manager b.memory in
    λ i. record { manager = p.0 i; memory = p.1 i }

-- and so are lines, whichever and however many
pub lines_ran : (ls : List (List ℕ)) (b : BenchState) → after_lines ls b ≡ ran_lines ls b
unfolding after_lines calls_of run_of memory_left
lines_ran [] b = refl
lines_ran (l ∷ ls) b =
    let cs = calls_of_line (line_in b.manager l) b.memory in
    ap (after_lines ls) (played_ran l b) ∙ lines_ran ls (ran_of cs b) ∙ sym (ran_append cs (calls_of ls (run_of cs b.manager) (memory_left cs b.manager b.memory)) b)

-- what was played of an input, as the bench's functions say it
pub played_is_run : (ends : Bool) (input : List ℕ) (b c : BenchState) (u : ℕ) → PlayedTo ends input b c u → c ≡ ran_lines (lines_of ends (take u input)) b
played_is_run ends input b c u p = p.state ∙ lines_ran (lines_of ends (take u input)) b

-- `play_lines` from any manager, with any room
pub input_is_run : (ends : Bool) (room : ℕ) (input : List ℕ) (s x : Session) → x ≡ played_input ends room input s → s.used ≡ 0 →
    state_of x ≡ ran_lines (lines_of ends (take x.used input)) (state_of s)
input_is_run ends room input s x e z = played_is_run ends input (state_of s) (state_of x) x.used (input_played ends room input s x e z)

-- The session is the program: for every plan, input, room and lent memory.
pub session_is_run : (plan input : List ℕ) (room : ℕ) (lent : Memory) →
    state_of (played_all plan input room lent) ≡ ran_lines (session_lines plan input room lent) (loaded plan lent)
unfolding played_all after_lines
session_is_run plan input room lent =
    by_bool (ltb room 338) (λ e. rw e (unplayed [])) (λ e.
    by_bool (is_empty (plan_text plan))
    (λ f. rw (e, f) (input_is_run true room input (opened plan [] lent) _ refl refl))
    (λ f. rw (e, f) (unplayed (plan_text plan))))
  where
    unplayed : (text : List ℕ) → state_of (opened plan text lent) ≡ ran_lines (lines_of true (take 0 input)) (loaded plan lent)
    unplayed text = ap (λ ls. after_lines ls (loaded plan lent)) (sym (no_lines true)) ∙ lines_ran (lines_of true []) (loaded plan lent)

-- the manager that calls return
calls_hold : (plan : List ℕ) → load_number plan ≡ 0 → (cs : List Call) → DemandsHold plan cs (run_of cs (loaded_manager plan))
calls_hold plan e cs = record { returned = refl; holds = all_calls.holds plan e cs; demands = all_calls.demands plan e cs }

-- So the demands hold of lines played on the manager of an accepted load, whichever and however many: in the bench ..
pub lines_hold : (plan : List ℕ) → load_number plan ≡ 0 → (ls : List (List ℕ)) (lent : Memory) →
    DemandsHold plan (calls_of ls (loaded_manager plan) lent) (after_lines ls (loaded plan lent)).manager
lines_hold plan e ls lent =
    let cs = calls_of ls (loaded_manager plan) lent in
    subst (λ (b : BenchState). DemandsHold plan cs b.manager) (sym (lines_ran ls (loaded plan lent))) (calls_hold plan e cs)

-- .. and in a whole session over lent buffers
pub session_holds : (plan input : List ℕ) (room : ℕ) (lent : Memory) → load_number plan ≡ 0 →
    DemandsHold plan (calls_of (session_lines plan input room lent) (loaded_manager plan) lent) (played_all plan input room lent).manager
session_holds plan input room lent e =
    let cs = calls_of (session_lines plan input room lent) (loaded_manager plan) lent in
    subst (λ (b : BenchState). DemandsHold plan cs b.manager) (sym (session_is_run plan input room lent)) (calls_hold plan e cs)
