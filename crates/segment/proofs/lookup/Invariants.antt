use Rattle.std.proofs.Common.{◌≡◌, ◌-◌, length}
use Rattle.segment.specs.Mapping.{find}
use Rattle.segment.proofs.lookup.Given as goal

-- the byte that is looked for is `left` bytes behind, from record i on
abbrev pub invariant-loop-i : goal.invariant-loop-i
invariant-loop-i l = find (length l.sub_areas - l.i) l.sub_areas l.i l.area l.left ≡ find (length l.sub_areas) l.sub_areas 0 l.area l.offset
