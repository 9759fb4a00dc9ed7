use Prim.Native.Nat.{◌≤◌}
use mathlib.Core.Path.{refl, ◌∙◌, sym}
use native.Mathlib.Omega.{arith}
use lib.ListN.{length, length-set}
use lib.Seq.{take_all}
use Rattle.transfer.specs.PartLaws.{copy_turn}
use Rattle.transfer.proofs.copy_all.Goals as goal

pub loop-i-init : goal.loop-i-init
loop-i-init c = (refl, refl)

pub loop-i-preserved : goal.loop-i-preserved
loop-i-preserved c =
    let l = c.loop-i in
    (simp length-set l.invariant.0, copy_turn l.dst c.args.src.now l.i (omega arith) (omega arith) l.invariant.1)

pub shape_of-dst : goal.shape_of-dst
shape_of-dst c = c.loop-i.invariant.0

pub returns : goal.returns
returns c =
    let l = c.loop-i in
    let e : length l.dst ≤ l.i = omega arith in
    sym (take_all _ _ e) ∙ l.invariant.1 ∙ take_all l.i c.args.src.now (omega arith)
