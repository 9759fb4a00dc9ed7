use Rattle.std.proofs.Common.{arith, rules, length-append, length-take-le}
use Rattle.streams.proofs.Moving.{read_more}
use Rattle.streams.proofs.read_to_end.Goals as goal

pub loop-done-preserved : goal.loop-done-preserved
loop-done-preserved g c =
    let read = c.in_ok-n.ensures in
    let l = c.loop-done in
    record {
      within = simp length-append (omega (arith, length-take-le l.done l.buf l.invariant.within, read.within));
      same_length = search rules;
      moved = read_more _ _ _ l.buf c.read_some.new.buf _ l.done c.in_ok-n.n l.invariant.within read.within l.invariant.moved read.moved.0;
    }
