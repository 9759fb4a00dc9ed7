-- document 01, "The mapping and the pieces": where a byte lies
use Rattle.std.specs.Prelude.{ℕ, zero, suc, ◌+◌, ◌-◌, List, Some, None, ltb}
use Rattle.std.specs.declared.option.Option.{Option}
use Rattle.arith.specs.Cases.{pick}
use Rattle.memory.specs.declared.LogicalAddress.{LogicalAddress}
use Rattle.plan.specs.Questions.{area_of, sub_area_of, is_of, size_of}
use Rattle.plan.specs.declared.records.Plan.{Plan}
use Rattle.plan.specs.declared.records.SubAreaRecord.{SubAreaRecord}
use Rattle.segment.specs.declared.FoundByte.{FoundByte}

-- "To find a byte, the lookup walks the sub-area records as a lent list in plan order."
-- From record i on, of which k are left: the byte at offset x of area a. A record found, an offset in it, and the physical address
unfoldable pub find : ℕ → List SubAreaRecord → ℕ → ℕ → ℕ → Option FoundByte
find zero l i a x = None
find (suc k) l i a x =
    pick (is_of a (sub_area_of l i))
    (pick (ltb x (size_of (sub_area_of l i)))
    (Some (record { sub_area = i; offset = x; address = record { 0 = (sub_area_of l i).start + x } }))
    (find k l (i + 1) a (x - size_of (sub_area_of l i))))
    (find k l (i + 1) a x)

-- the byte at logical address x of area a, which starts at `start`, by the first n records
abbrev pub located : List SubAreaRecord → ℕ → ℕ → ℕ → ℕ → Option FoundByte
located l n start a x = pick (ltb x start) None (find n l 0 a (x - start))

-- "A logical address never stands for a physical one; only the mapping turns the first into the second."
unfoldable pub mapped : Plan → ℕ → LogicalAddress → Option FoundByte
mapped p a address = located p.sub_areas p.sub_area_count (area_of p.areas a).start.0 a address.0
