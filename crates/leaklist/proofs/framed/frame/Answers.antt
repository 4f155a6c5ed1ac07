-- Each turn puts the box of one more triangle.
use mathlib.Core.Path.{refl}
use native.Mathlib.Omega.{arith}
use borrow.Author.Rules.{rules}
use Rattle.leaklist.proofs.Frames.{frame_turn}
use Rattle.leaklist.proofs.framed.frame.Goals as goal

pub loop-k-preserved : goal.loop-k-preserved
loop-k-preserved c = let g = c.args in
    let l = c.loop-k in
    (search rules, frame_turn g.table.now l.bounds l.k (omega (arith, c.loop-k-test.true, l.invariant.0)) refl c.box_of.ensures l.invariant.1)
