use Rattle.std.proofs.Common.{◌≡◌, length, arith}
use Rattle.lines.specs.laws.FieldLaws.{word_none, field_more, field_space, field_last}
use Rattle.lines.proofs.part_end.Goals as goal

pub loop-i-init : goal.loop-i-init
loop-i-init c = word_none c.args.mark c.args.bytes.now c.args.from c.requires

pub returns-then-bytes-i : goal.returns-then-bytes-i
returns-then-bytes-i c = let a = c.args in let l = c.loop-i in (omega arith, omega arith, field_space a.mark a.bytes.now a.from l.i (omega arith) (omega arith) l.invariant)

pub loop-i-preserved : goal.loop-i-preserved
loop-i-preserved c = let a = c.args in let l = c.loop-i in field_more a.mark a.bytes.now a.from l.i (omega arith) (omega arith) c.if-bytes-i.false l.invariant

pub returns : goal.returns
returns c =
    let a = c.args in
    let e : c.loop-i.i ≡ length a.bytes.now = omega arith in
    (omega arith, omega arith, rw (← e) (field_last a.mark a.bytes.now a.from c.loop-i.i e c.loop-i.invariant))
