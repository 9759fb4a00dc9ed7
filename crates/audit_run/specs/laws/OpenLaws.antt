-- A plan of which nothing is printed was accepted.
use Rattle.std.specs.Prelude.{ℕ, ◌+◌, ◌≤◌, List, ◌≡◌, length}
use Rattle.std.proofs.Common.{arith, le-ltb}
use Rattle.arith.specs.Cases.{by_ltb}
use Rattle.audits.specs.laws.LoadLaws.{Loaded, loaded}
use Rattle.manager.specs.Load.{loaded_manager}
use Rattle.plan.specs.Questions.{load_number}
use Rattle.session.specs.PlanText.{plan_text, open_text}
use Rattle.session.specs.laws.PlanTextLaws.{number_some}

-- it is loaded
silent_accepted : (l : List ℕ) → length (plan_text l) ≡ 0 → load_number l ≡ 0
unfolding plan_text
silent_accepted l e =
    by_ltb 4096 (length l)
    (λ f _. absurd (let k = rw f at e in omega (arith, k)))
    (λ f _.
    by_ltb 0 (load_number l)
    (λ g _. absurd (let k = rw (f, g) at e in omega (arith, k, number_some (load_number l))))
    (λ _ h. omega arith))

pub open_loaded : (l : List ℕ) (room end : ℕ) → 338 ≤ room → end ≡ 0 → end ≡ 0 + length (open_text room l) → Loaded (loaded_manager l)
unfolding open_text
open_loaded l room end h z e = loaded l (silent_accepted l (let k = rw (le-ltb room 338 h) at e in omega (arith, k)))
