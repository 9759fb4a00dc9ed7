use Rattle.std.proofs.Common.{◌+◌, ◌≡◌, refl, ap, ◌∙◌, arith}
use Rattle.loops.specs.Repeated.{repeated, total, repeated_more, total_more}
use Rattle.loops.specs.Rounds.{bench_is, left_total}
use Rattle.loops.proofs.rounds.Goals as goal

pub loop-turn-init : goal.loop-turn-init
unfolding repeated total
loop-turn-init g c = (refl, refl, refl, refl, omega arith)

pub loop-turn-preserved : goal.loop-turn-preserved
loop-turn-preserved g c =
    let here = c.loop-turn in
    let inv = here.invariant in
    let done = c.round-answer.ensures in (
      omega (arith, inv.0),
      omega (arith, inv.1),
      rw (repeated_more, ← inv.2) (bench_is _ _ _ _ _ done.manager_value done.image_after done.store_after),
      rw (total_more, ← inv.2, ← inv.3) (ap (◌+◌ here.sum) (c.answer_number.ensures ∙ done.answer_value)),
      omega arith,
    )

pub returns : goal.returns
returns g c =
    let here = c.loop-turn in
    let inv = here.invariant in
    let all : c.args.times ≡ here._turn = omega arith in
    let begun = c.of-owner.ensures ∙ c.busy.ensures in
    let none : here.sum + c.rest.result + c.left_sum.result ≡ here.sum + c.left_sum.result = omega (arith, c.rest.ensures) in
    let left = c.left_sum.ensures.value ∙ ap (λ m. left_total m 8) c.manager.ensures in
    rw (← begun, ← c.answer_of-answers.ensures, all)
    (record {
      value = rw (← inv.2, ← inv.3) (none ∙ ap (◌+◌ here.sum) left);
      image_after = ap (λ b. b.lent.image) inv.2;
      store_after = ap (λ b. b.lent.store) inv.2;
    })
