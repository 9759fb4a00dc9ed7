use Rattle.std.proofs.Common.{◌≡◌, ◌≤◌, ◌*◌, length}
use Rattle.effects.specs.Effects.{memory_of}
use Rattle.loops.specs.Rounds.{round_total, bench_of, bench_after}
use Rattle.loops.proofs.rounds.Given as goal

abbrev pub invariant-loop-turn : goal.invariant-loop-turn
invariant-loop-turn g l =
    let first = g.O.Owner.owned l.initial.owner in
    let lent = memory_of l.initial.image l.initial.store in
    (length l.image ≡ length l.initial.image)
    × (length l.store ≡ length l.initial.store)
    × (bench_of (g.O.Owner.owned l.owner) (memory_of l.image l.store) ≡ bench_after first lent l.answers l._turn)
    × (l.sum ≡ round_total l.answers (bench_of first lent) l._turn)
    × (l.sum ≤ 255 * l._turn)
