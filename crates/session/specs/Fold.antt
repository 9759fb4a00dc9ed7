-- document 01, "A printed session": the lines of the input, one after the other.
use Rattle.std.specs.Prelude.{ℕ, ◌+◌, Bool, true, List, [], ◌∷◌, ◌++◌, ltb, leb, length}
use Rattle.arith.specs.Cases.{pick}
use Rattle.lines.specs.Fields.{cut_at}
use Rattle.manager.specs.Load.{loaded_manager}
use Rattle.manager.specs.declared.Manager.{Manager}
use Rattle.rules.specs.Memory.{Memory}
use Rattle.session.specs.PlanText.{plan_text}
use Rattle.session.specs.Play.{played_text, played_manager, played_memory}

-- what the session has come to: the manager, the lent memory, all that was printed, and how much of the input was used
pub record Session : Type 0 where
  pub manager : Manager
  pub memory : Memory
  pub printed : List ℕ
  pub used : ℕ

-- a line l, which takes n bytes of the input
abbrev pub played : ℕ → List ℕ → Session → Session
played n l s =
    record {
      manager = played_manager s.manager l s.memory;
      memory = played_memory s.manager l s.memory;
      printed = s.printed ++ played_text s.manager l s.memory;
      used = s.used + n;
    }

-- the bytes behind the last line end: a line if the input ends there and it has a byte
unfoldable pub played_last : Bool → List ℕ → Session → Session
played_last ends l s = pick ends (pick (ltb 0 (length l)) (played (length l) l s) s) s

-- the buffer for what is printed has `room` bytes: a line is played if the longest answer fits
abbrev pub has_room : ℕ → Session → Bool
has_room room s = leb (length s.printed + 338) room

unfoldable pub played_lines : Bool → ℕ → List (List ℕ) → Session → Session
played_lines ends room [] s = s
played_lines ends room (l ∷ []) s = pick (has_room room s) (played_last ends l s) s
played_lines ends room (l ∷ k ∷ ls) s = pick (has_room room s) (played_lines ends room (k ∷ ls) (played (length l + 1) l s)) s

-- lines end at byte 10
abbrev pub played_input : Bool → ℕ → List ℕ → Session → Session
played_input ends room input s = played_lines ends room (cut_at 10 input) s

-- what was printed of the plan, before any line
abbrev pub opened : List ℕ → List ℕ → Memory → Session
opened plan text lent = record { manager = loaded_manager plan; memory = lent; printed = text; used = 0 }

abbrev pub is_empty : List ℕ → Bool
is_empty l = ltb (length l) 1

-- the whole session: the plan's text, or else the lines; nothing where not even one answer has room
unfoldable pub played_all : List ℕ → List ℕ → ℕ → Memory → Session
played_all plan input room lent =
    pick (ltb room 338) (opened plan [] lent)
    (pick (is_empty (plan_text plan)) (played_input true room input (opened plan [] lent)) (opened plan (plan_text plan) lent))
