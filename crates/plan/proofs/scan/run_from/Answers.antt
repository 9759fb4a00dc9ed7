use Prim.Native.Nat.{◌-◌}
use mathlib.Core.Path.{◌∙◌, sym}
use native.Mathlib.Omega.{arith}
use native.Mathlib.Nat.{sub-zero, zero-add, zero-mul, suc-mul}
use native.Mathlib.Numerals.{add-one}
use lib.ListN.{length}
use Rattle.plan.specs.Records.{records_from}
use Rattle.plan.proofs.laws.RecordLaws.{record_fits, run_more, run_end}
use Rattle.plan.proofs.scan.run_from.Goals as goal

pub loop-format-init : goal.loop-format-init
unfolding records_from
loop-format-init c = (omega arith, omega arith, omega (arith, zero-mul c.args.format.size), rw (sub-zero, zero-add))

pub overflow_add-count : goal.overflow_add-count
overflow_add-count c =
    let a = c.args in
    let here = sym c.is_record.ensures ∙ c.loop-format-test.true in
    let fits = record_fits a.format a.bytes.now c.loop-format.end here in
    omega arith

pub overflow_add-end : goal.overflow_add-end
overflow_add-end c =
    let a = c.args in
    let here = sym c.is_record.ensures ∙ c.loop-format-test.true in
    let fits = record_fits a.format a.bytes.now c.loop-format.end here in
    omega arith

pub loop-format-smaller : goal.loop-format-smaller
loop-format-smaller c =
    let a = c.args in
    let here = sym c.is_record.ensures ∙ c.loop-format-test.true in
    let fits = record_fits a.format a.bytes.now c.loop-format.end here in
    omega arith

pub loop-format-preserved : goal.loop-format-preserved
loop-format-preserved c =
    let a = c.args in
    let here = sym c.is_record.ensures ∙ c.loop-format-test.true in
    let fits = record_fits a.format a.bytes.now c.loop-format.end here in
    let n = c.loop-format.count in
    let more = run_more a.format a.bytes.now n c.loop-format.end (omega arith) here in
    (omega arith, omega arith, omega (arith, add-one n, suc-mul n a.format.size), omega arith)

pub returns : goal.returns
returns c =
    let a = c.args in
    let none = run_end a.format a.bytes.now (length a.bytes.now - c.loop-format.count) c.loop-format.end
    (sym c.is_record.ensures ∙ c.loop-format-test.false) in
    (omega arith, c.loop-format.invariant.2, omega arith)
