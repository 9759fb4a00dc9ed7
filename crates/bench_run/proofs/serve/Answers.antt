use Rattle.std.proofs.Common.{◌++◌, [], refl, rules, arith}
use Rattle.std.proofs.KnownBytes.{Consumes-nil, Consumes-trans}
use Rattle.session.specs.AllLines.{bench_of}
use Rattle.bench_run.proofs.TurnTexts.{no_turn, turns_end, last_turn, turn_printed, turn_state, turn_kept}
use Rattle.bench_run.proofs.serve.Goals as goal

pub loop-init : goal.loop-init
loop-init g c =
    let a = c.args in
    let none = no_turn (bench_of a.manager a.image.now a.store.now) (g.W.Write.contents a.writer.now) in
    (omega arith, refl, refl, λ _. ([], Consumes-nil _, none.0, none.1, none.2))

pub returns-then-not-turn-clause-served : goal.returns-then-not-turn-clause-served
returns-then-not-turn-clause-served g c =
    let l = c.loop in
    λ room.
    let (came, consumed, printed, state, kept) = l.invariant.3 room in
    let (piece, read, turn) = c.take_turn-turn.ensures.turn (omega (arith, l.invariant.2)) in
    (came ++ piece, Consumes-trans _ _ _ came piece consumed read, last_turn came _ _ _ _ state printed piece _ _ _ _ _ kept turn)

pub loop-preserved : goal.loop-preserved
loop-preserved g c =
    let l = c.loop in (
      search rules,
      search rules,
      search rules,
      λ room.
          let (came, consumed, printed, state, kept) = l.invariant.3 room in
          let (piece, read, turn) = c.take_turn-turn.ensures.turn (omega (arith, l.invariant.2)) in (
            came ++ piece,
            Consumes-trans _ _ _ came piece consumed read,
            turn_printed came _ _ _ _ state printed piece _ _ _ _ _ kept turn (search rules),
            turn_state came _ _ _ _ state printed piece _ _ _ _ _ kept turn (search rules),
            turn_kept came _ _ _ _ state printed piece _ _ _ _ _ kept turn (search rules),
          ),
    )

pub returns-clause-served : goal.returns-clause-served
returns-clause-served g c =
    λ room.
    let (came, consumed, printed, state, kept) = c.loop.invariant.3 room in
    (came, consumed, turns_end came _ _ _ _ state printed)
