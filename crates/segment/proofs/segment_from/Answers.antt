use Rattle.std.proofs.Common.{◌∙◌, sym, arith}
use Rattle.segment.specs.laws.Found.{found_index, found_inside}
use Rattle.segment.proofs.segment_from.Goals as goal

pub offset_bounds-sub_areas-byte : goal.offset_bounds-sub_areas-byte
offset_bounds-sub_areas-byte c = omega (arith, c.requires, found_index _ _ _ _ _ (sym c.in-Some.is ∙ c.locate-found.ensures))

pub bounds-sub_areas-byte : goal.bounds-sub_areas-byte
bounds-sub_areas-byte c = found_index _ _ _ _ _ (sym c.in-Some.is ∙ c.locate-found.ensures)

pub segment_found-requires : goal.segment_found-requires
segment_found-requires c = found_inside _ _ _ _ _ (sym c.in-Some.is ∙ c.locate-found.ensures) c.requires
