-- Each turn prepares one more triangle.
use Prim.Native.Nat.{◌*◌}
use native.Mathlib.Omega.{arith}
use borrow.Author.Rules.{rules}
use Rattle.leaklist.proofs.Table.{Prepared-turn, shape_read}
use Rattle.leaklist.proofs.prepared.prepare.Goals as goal

pub loop-k-preserved : goal.loop-k-preserved
loop-k-preserved c = let g = c.args in
    let l = c.loop-k in
    let s = shape_read g.file.now (24 * l.k) c.position_at.ensures c.position_at-in-loop-k.ensures c.position_at-in-loop-k-2.ensures c.shape_of.ensures in
    (search rules, Prepared-turn g.file.now l.table l.k c.shape_of.result (omega (arith, c.loop-k-test.true, l.invariant.0)) l.invariant.1 s)
