-- What a session prints, by the plan.
use Rattle.std.specs.Prelude.{ℕ, ◌≤◌, ◌<◌, List, ◌≡◌, length, take, replicate}
use Rattle.std.specs.declared.option.Option.{Option}
use Rattle.std.proofs.Common.{sym, ap, subst, ◌∙◌, arith, lt-ltb, le-ltb}
use Rattle.std.proofs.lemmas.List.{take-replicate, length-replicate}
use Rattle.streams.specs.Moved.{Wrote}
use Rattle.texts.specs.Appended.{Appended}
use Rattle.texts.specs.Texts.{question_line}
use Rattle.manager.specs.Load.{loaded_manager}
use Rattle.manager.specs.declared.Manager.{Manager}
use Rattle.session.specs.AllLines.{bench_of}
use Rattle.session.specs.PlanText.{plan_text, open_text, image_length_of}
use Rattle.bench_run.specs.Texts.{text_of_lines, first_bench, bench_text}
use Rattle.session.specs.AllLines.{lines_of}
use Rattle.std.specs.Prelude.{true}

-- a front of a text, whatever was known of the rest
front_of : (o n : Option (List ℕ)) (text whole : List ℕ) {W : Type 0} → Wrote o n text W → text ≡ whole → Wrote o n whole ⊥
front_of o n text whole w e = record { front = w.front; rest = w.rest; appended = w.appended; parts = w.parts ∙ e; all = λ (v : ⊥). absurd v }

open_is : (p : List ℕ) (room : ℕ) → 338 ≤ room → open_text room p ≡ plan_text p
unfolding open_text
open_is p room h = rw (le-ltb room 338 h)

refused : (p input : List ℕ) → 0 < length (plan_text p) → plan_text p ≡ bench_text p input
unfolding bench_text
refused p input h = rw (le-ltb (length (plan_text p)) 1 h)

accepted : (p input : List ℕ) → length (plan_text p) ≡ 0 → text_of_lines (lines_of true input) (first_bench p) ≡ bench_text p input
unfolding bench_text
accepted p input h = rw (lt-ltb (length (plan_text p)) 1 (omega arith))

-- where something was printed of the plan
pub session_refused : (p plan input : List ℕ) (o n : Option (List ℕ)) (before after : List ℕ) (room end : ℕ) {W : Type 0} → p ≡ plan → 338 ≤ room → 0 < end →
    Appended before after 0 end (open_text room p) → Wrote o n (take end after) W → Wrote o n (bench_text plan input) ⊥
session_refused p plan input o n before after room end same h some a w =
    let text : open_text room p ≡ plan_text plan = open_is p room h ∙ ap plan_text same in
    let long : length (plan_text plan) ≡ end = omega (arith, a.ends, ap length text) in
    front_of o n (take end after) (bench_text plan input) w (a.bytes ∙ text ∙ refused plan input (omega arith))

-- the bench's first state
first_is : (p plan : List ℕ) (m : Manager) (image store : List ℕ) (k room most : ℕ) → p ≡ plan → m ≡ loaded_manager p → image ≡ replicate most 255 → k ≡ image_length_of room p → k ≤ most →
    bench_of m (take k image) store ≡ bench_of (loaded_manager plan) (replicate (image_length_of room plan) 255) store
first_is p plan m image store k room most same f e g h =
    let part : take k image ≡ replicate (image_length_of room plan) 255
    = ap (take k) e ∙ take-replicate k most 255 h ∙ ap (λ j. replicate j 255) (g ∙ ap (image_length_of room) same) in
    let loaded : m ≡ loaded_manager plan = f ∙ ap loaded_manager same in
    (λ i. bench_of (loaded i) (part i) store)

-- where nothing was
pub session_played : (p plan input : List ℕ) (o n : Option (List ℕ)) (before after : List ℕ) (m : Manager) (image store : List ℕ) (k room end : ℕ) {W : Type 0} → p ≡ plan → room ≡ 65536 → end ≡ 0 →
    Appended before after 0 end (open_text room p) → m ≡ loaded_manager p → image ≡ replicate 65536 255 → k ≡ image_length_of room p → k ≤ 65536 → store ≡ replicate 65536 0 →
    Wrote o n (text_of_lines (lines_of true input) (bench_of m (take k image) store)) W → Wrote o n (bench_text plan input) ⊥
session_played p plan input o n before after m image store k room end same full none a f e g h z w =
    let text : open_text room p ≡ plan_text plan = open_is p room (omega arith) ∙ ap plan_text same in
    let silent : length (plan_text plan) ≡ 0 = omega (arith, a.ends, ap length text) in
    let first : bench_of m (take k image) store ≡ first_bench plan
    = first_is p plan m image store k room 65536 same f e g h ∙ (λ i. bench_of (loaded_manager plan) (replicate (image_length_of (full i) plan) 255) (z i)) in
    front_of o n _ (bench_text plan input) w (ap (text_of_lines (lines_of true input)) first ∙ accepted plan input silent)

long_plan : (l : List ℕ) → 4096 < length l → plan_text l ≡ question_line
unfolding plan_text
long_plan l h = rw (lt-ltb 4096 (length l) h)

-- a plan that cannot be read prints what one over 4,096 bytes prints
abbrev pub unread : List ℕ
unread = replicate 4097 0

pub session_unread : (input : List ℕ) (o n : Option (List ℕ)) {W : Type 0} → Wrote o n question_line W → Wrote o n (bench_text unread input) ⊥
session_unread input o n w =
    let long : length unread ≡ 4097 = length-replicate {A = ℕ} 4097 0 in
    let text : plan_text unread ≡ question_line = long_plan unread (omega arith) in
    let some : 0 < length (plan_text unread) = subst (λ (t : List ℕ). 0 < length t) (sym text) (omega arith) in
    front_of o n question_line (bench_text unread input) w (sym text ∙ refused unread input some)
