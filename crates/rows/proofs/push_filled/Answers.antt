use Rattle.std.proofs.Common.{◌≡◌, length, arith}
use Rattle.rows.specs.laws.FormLaws.{number_next, byte_next, none_left}
use Rattle.rows.specs.laws.WrittenLaws.{part_more, part_all}
use Rattle.rows.proofs.push_filled.Goals as goal
use Rattle.rows.proofs.push_filled.Goals.{then-byte-eq35, else-byte-eq35}

pub loop-byte-preserved : goal.loop-byte-preserved
loop-byte-preserved c =
    let a = c.args in
    let l = c.loop-byte in
    elim c.if-byte-eq35.branch [
      | then-byte-eq35 w ↦
          let next = number_next a.form.now a.numbers.now l.byte-index l.k c.loop-byte-test.true w.if-byte-eq35.true in
          let p = rw w.number_at.ensures at w.number.ensures in
          record { numbers_bound = omega arith; few = rw w.page-is (omega (arith, p.few)); printed = rw (w.page-is, w.k-is) (part_more _ next l.invariant.printed p) }
      | else-byte-eq35 w ↦
          let next = byte_next a.form.now a.numbers.now l.byte-index l.k c.loop-byte-test.true w.if-byte-eq35.false in
          let p = w.push.ensures in
          record { numbers_bound = omega arith; few = rw w.page-is (omega (arith, p.few)); printed = rw (w.page-is, w.k-is) (part_more _ next l.invariant.printed p) }
    ]

pub returns : goal.returns
returns c =
    let l = c.loop-byte in
    let a = c.args in
    let end : l.byte-index ≡ length a.form.now = omega arith in
    part_all (none_left a.form.now a.numbers.now l.byte-index l.k c.loop-byte-test.false) l.invariant.printed (omega (arith, end))
