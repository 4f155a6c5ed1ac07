-- Each turn adds one more cross.
use mathlib.Core.Path.{◌≡◌, refl, ap, ◌∙◌}
use mathlib.Core.Bool.{cond}
use Prim.Native.Nat.{◌+◌, ◌-◌}
use native.Mathlib.Nat.{le_antisymm}
use native.Mathlib.Omega.{arith}
use lib.Ieee.{binary64, mul, lt, neg, of_bits}
use lib.ListN.{length}
use Rattle.floats.specs.Finite.{nought}
use Rattle.triangles.specs.Positions.{half}
use Rattle.routine.specs.Code.{sum_of_crosses, area_by}
use Rattle.routine.proofs.Turns.{one_summed}
use Rattle.routine.proofs.spots.area_of.Goals as goal

pub loop-k-init : goal.loop-k-init
unfolding sum_of_crosses
loop-k-init c = (omega arith, refl)

pub loop-k-preserved : goal.loop-k-preserved
loop-k-preserved c =
    let two : c.loop-k.k ≡ c.loop-k.k - 2 + 2 = omega (arith, c.loop-k.auto.k) in
    (omega (arith, c.loop-k-test.true), one_summed c.args.corners.now _ _ two c.loop-k.invariant.1 c.cross_from-sum.ensures)

pub returns : goal.returns
unfolding area_by mul lt neg of_bits
returns c =
    let cs = c.args.corners.now in
    let n : c.loop-k.k - 2 ≡ length cs - 2 = le_antisymm c.loop-k.invariant.0 (omega (arith, c.loop-k-test.false)) in
    ap (mul binary64 half) (c.turned_if.ensures ∙ ap (λ sum. cond (lt sum nought) (neg sum) sum) (c.loop-k.invariant.1 ∙ ap (sum_of_crosses cs) n))
