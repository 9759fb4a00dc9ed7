use native.Mathlib.Omega.{arith}
use Rattle.plan.proofs.laws.RecordLaws.{layout_steps, plan_by_layout}
use Rattle.plan.proofs.records.Plan.read.Goals as goal

pub read_records-requires : goal.read_records-requires
read_records-requires c = let k = layout_steps _ _ c.requires.layout_value.0 in (omega arith, (omega arith, omega arith))

pub read_records-requires-2 : goal.read_records-requires-2
read_records-requires-2 c = let k = layout_steps _ _ c.requires.layout_value.0 in (omega arith, (omega arith, omega arith))

pub read_records-requires-3 : goal.read_records-requires-3
read_records-requires-3 c = let k = layout_steps _ _ c.requires.layout_value.0 in (omega arith, (omega arith, omega arith))

pub read_endurance-requires : goal.read_endurance-requires
read_endurance-requires c = let k = layout_steps _ _ c.requires.layout_value.0 in omega arith

pub returns : goal.returns
returns c = rw (c.read_endurance.ensures, c.read_records-3.ensures, c.read_records-2.ensures, c.read_records.ensures)
    (plan_by_layout _ c.args.layout c.requires.layout_value.0)
