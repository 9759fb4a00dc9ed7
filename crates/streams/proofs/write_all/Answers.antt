use Rattle.std.proofs.Common.{rules}
use Rattle.streams.proofs.Moving.{took_more, wrote_front}
use Rattle.streams.proofs.write_all.Goals as goal

pub loop-done-preserved : goal.loop-done-preserved
loop-done-preserved g c =
    let l = c.loop-done in
    record {
      within = search rules;
      moved = took_more _ _ _ c.args.buf.now l.done c.in-Ok.n l.invariant.moved c.in-Ok.ensures.moved;
    }

pub returns-in-Err-clause-wrote : goal.returns-in-Err-clause-wrote
returns-in-Err-clause-wrote g c = wrote_front _ _ c.args.buf.now c.loop-done.done (search rules) (λ e. cc)

pub returns-in-Err-2-clause-wrote : goal.returns-in-Err-2-clause-wrote
returns-in-Err-2-clause-wrote g c = wrote_front _ _ c.args.buf.now c.loop-done.done (search rules) (λ e. cc)
