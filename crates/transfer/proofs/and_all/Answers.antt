use Prim.Native.Nat.{◌+◌, min}
use mathlib.Core.List.{◌++◌}
use mathlib.Core.Path.{◌≡◌, refl, ◌∙◌, sym, ap}
use native.Mathlib.Omega.{arith}
use lib.Bits.{bit_and}
use lib.ListN.{length, take, drop, get_or, set, length-set, take-append-drop}
use Rattle.arith.specs.Listed.{listed}
use Rattle.transfer.specs.PartLaws.{anded, map_turn, still_at}
use Rattle.transfer.proofs.and_all.Invariants.{both}
use Rattle.transfer.proofs.and_all.Goals as goal

pub loop-i-init : goal.loop-i-init
unfolding listed
loop-i-init c = (omega arith, refl, refl, refl)

pub loop-i-preserved : goal.loop-i-preserved
loop-i-preserved c =
    let l = c.loop-i in
    let a = c.args in
    let src = a.src.now in
    let first = a.dst.now in
    let is : bit_and (get_or l.dst l.i 0) (get_or src l.i 0) ≡ both first src l.i
    = ap (λ b. bit_and b (get_or src l.i 0)) (still_at l.dst first l.i l.invariant.3) in
    let turn = map_turn (both first src) l.dst first l.i (omega arith) l.invariant.2 l.invariant.3 in (
      l.invariant.0,
      simp length-set l.invariant.1,
      ap (λ b. take (l.i + 1) (set l.dst l.i b)) is ∙ turn.0,
      ap (λ b. drop (l.i + 1) (set l.dst l.i b)) is ∙ turn.1,
    )

pub shape_of-dst : goal.shape_of-dst
shape_of-dst c = c.loop-i.invariant.1

pub returns : goal.returns
unfolding anded
returns c =
    let l = c.loop-i in
    let a = c.args in
    let e : l.i ≡ min (length a.dst.now) (length a.src.now) = omega (arith, l.invariant.0) in
    sym (take-append-drop l.i l.dst)
    ∙ (λ k. l.invariant.2 k ++ l.invariant.3 k)
    ∙ ap (λ k. listed (both a.dst.now a.src.now) 0 k ++ drop k a.dst.now) e
