-- document 02, 05: the wear account
use Rattle.std.specs.Prelude.{ℕ, ◌+◌, min, List, [], ◌∷◌, Some, None, eqb, get_or, set}
use Rattle.std.specs.declared.option.Option.{Option}
use Rattle.arith.specs.Cases.{pick}
use Rattle.memory.specs.declared.LogicalAddress.{LogicalAddress}
use Rattle.plan.specs.Questions.{sub_area_of}
use Rattle.plan.specs.declared.records.Plan.{Plan}
use Rattle.segment.specs.Mapping.{mapped}
use Rattle.segment.specs.declared.FoundByte.{FoundByte}
use Rattle.segment.specs.declared.Segment.{Segment}
use Rattle.state.specs.declared.WearInfo.{WearInfo}
use Rattle.wear.specs.Wear.{most_wear, sectors_in, worn_to, charge_of}

-- "the number of sectors in its piece"
abbrev pub sectors_of : Plan → Segment → ℕ
sectors_of p s = sectors_in s.length (sub_area_of p.sub_areas s.sub_area).erase.unit

-- "Each done erase adds the number of sectors in its piece to the sub-area's wear sum": sub-area i's, a number without a limit, by these erases
unfoldable pub worn_in : Plan → ℕ → List Segment → ℕ
worn_in p i [] = 0
worn_in p i (s ∷ l) = pick (eqb s.sub_area i) (sectors_of p s) 0 + worn_in p i l

-- "which sticks at 4,294,967,295"
abbrev pub stuck_wear : Plan → List Segment → ℕ → ℕ
stuck_wear p erases i = min (worn_in p i erases) most_wear

-- the sums that a manager keeps, one for each sub-area, once these erases are done
unfoldable pub wear_after : Plan → List Segment → List ℕ → List ℕ
wear_after p [] sums = sums
wear_after p (s ∷ l) sums =
    let before = wear_after p l sums in
    set before s.sub_area (worn_to (get_or before s.sub_area 0) (sectors_of p s))

-- sub-area i's
abbrev pub worn_at : List ℕ → ℕ → ℕ
worn_at sums i = get_or sums i 0

abbrev pub no_wear_info : WearInfo
no_wear_info = record { sum = 0; charge = 0 }

-- "A query, addressed .. like memory info, gives the sum of the sub-area there and its charge": by the sum of each sub-area
abbrev pub wear_info_at : Plan → (ℕ → ℕ) → Option FoundByte → WearInfo
wear_info_at p sums None = no_wear_info
wear_info_at p sums (Some byte) =
    let i = byte.sub_area in record { sum = sums i; charge = charge_of (sums i) (get_or p.endurance i 0) (sub_area_of p.sub_areas i).sector_count }

unfoldable pub wear_info_of : Plan → (ℕ → ℕ) → ℕ → LogicalAddress → WearInfo
wear_info_of p sums a address = wear_info_at p sums (mapped p a address)
