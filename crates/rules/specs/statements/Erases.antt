-- document 02, 05: the erases done, of which the wear account speaks
use Rattle.std.specs.Prelude.{◌+◌, ◌*◌, ◌≤◌, ◌<◌, List, [], ◌∷◌, ◌≡◌}
use Rattle.plan.specs.Questions.{sub_area_of, end_of}
use Rattle.plan.specs.declared.records.Plan.{Plan}
use Rattle.segment.specs.declared.Segment.{Segment}
use Rattle.rules.specs.Wear.{sectors_of}

-- "the number of sectors in its piece": it is at least one whole sector of the sub-area whose wear it adds to, and no byte of another
pub record WholeSectors (p : Plan) (s : Segment) : Type 0 where
  pub known : s.sub_area < p.sub_area_count
  pub after_start : (sub_area_of p.sub_areas s.sub_area).start ≤ s.start.0
  pub before_end : s.start.0 + s.length ≤ end_of (sub_area_of p.sub_areas s.sub_area)
  pub whole : s.length ≡ sectors_of p s * (sub_area_of p.sub_areas s.sub_area).erase.unit
  pub some : 1 ≤ sectors_of p s

-- of each of these erases
abbrev pub AllWhole : Plan → List Segment → Type 0
AllWhole p [] = Unit
AllWhole p (s ∷ l) = WholeSectors p s × AllWhole p l
