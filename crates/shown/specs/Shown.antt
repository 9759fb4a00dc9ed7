-- document 01, "A printed session": what a round prints of its devices (rules, Session)
use Rattle.std.specs.Prelude.{ℕ, List, [], ◌∷◌, ◌++◌}
use Rattle.plan.specs.declared.records.Plan.{Plan}
use Rattle.rules.specs.Machine.{Core}
use Rattle.rules.specs.Session.{Shown, nothing, locked, request, shown_to}
use Rattle.texts.specs.Texts.{free_text, locked_text, request_text}

abbrev pub shown_text : Shown → List ℕ
shown_text nothing = free_text
shown_text locked = locked_text
shown_text (request area kind physical count) = request_text area kind physical count

unfoldable pub shown_texts : List Shown → List ℕ
shown_texts [] = []
shown_texts (x ∷ l) = shown_text x ++ shown_texts l

-- "it prints R and per device": "R" is 82
unfoldable pub round_line : List Shown → List ℕ
round_line l = (82 ∷ []) ++ shown_texts l ++ (10 ∷ [])

-- the line of an accepted round that left jobs and devices so
abbrev pub devices_line : Plan → Core → List ℕ
devices_line p c = round_line (shown_to p c p.device_count)
