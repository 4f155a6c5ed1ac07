-- Each turn adds one more absolute cross.
use Prim.Native.Nat.{◌+◌, ◌-◌}
use mathlib.Core.Path.{ap, ◌∙◌}
use native.Mathlib.Omega.{arith}
use lib.ListN.{drop}
use Rattle.std.proofs.lemmas.List.{length-take}
use Rattle.listing.specs.Pairs.{absolute}
use Rattle.leaklist.proofs.Sizes.{part_read, sum_none, sum_turn}
use Rattle.leaklist.proofs.areas.area_of.Goals as goal

pub loop-s-init : goal.loop-s-init
loop-s-init c = let g = c.args in sum_none g.table.now g.i

pub loop-s-preserved : goal.loop-s-preserved
loop-s-preserved c = let g = c.args in
    let k = c.loop-s.s-index in
    let m = g.i + g.n - g.i in
    sum_turn g.table.now g.i k c.loop-s.invariant (c.turned_if-sum.ensures ∙ ap (λ s. absolute s.cross) (part_read g.table.now g.i m k (omega (arith, c.loop-s-test.true, length-take m (drop g.i g.table.now)))))
