use Rattle.std.proofs.Common.{◌≡◌, [], ◌++◌, arith, length, take, length-take-le, take_at}
use Rattle.bench_run.proofs.TurnTexts.{read_or_end, read_none, read_few, kept_and_read, took_input, took_end}
use Rattle.bench_run.proofs.take_turn.Goals as goal

pub returns-then-n-eq0-clause-turn : goal.returns-then-n-eq0-clause-turn
returns-then-n-eq0-clause-turn g c =
    let a = c.args in
    let none = read_none _ _ c.read_some.result c.read_some.new.buf c.read_some.ensures.moved (rw c.unwrap_or-n.ensures at c.if-n-eq0.true) in
    let kept = take a.kept a.input.now in
    let same : take a.kept (kept ++ _) ≡ kept = take_at kept _ a.kept (length-take-le a.kept a.input.now (omega arith)) in
    λ _. ([], none, took_end _ _ _ _ _ _ _ _ same c.end_input.ensures.kept_value.1 c.end_input.ensures.written)

pub returns-clause-turn : goal.returns-clause-turn
returns-clause-turn g c =
    let a = c.args in
    let part = c.read_some.new.buf in
    let n = c.unwrap_or-n.result in
    let read = rw (← c.unwrap_or-n.ensures) at (read_or_end _ _ c.read_some.result part c.read_some.ensures.moved) in
    let few = rw (← c.unwrap_or-n.ensures) at (read_few c.read_some.result (length part) c.read_some.ensures.within) in
    let taken = c.take_input.ensures in
    let same = kept_and_read a.input.now part _ a.kept n (omega arith) few in
    λ room. (take n part, read, took_input _ _ _ _ _ _ _ _ _ _ same taken.kept_bound.1 room taken.written taken.taken_whole)
