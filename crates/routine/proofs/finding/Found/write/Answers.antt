-- Each turn writes one more position.
use Prim.Native.Nat.{◌≤◌}
use native.Mathlib.Omega.{arith}
use borrow.Author.Rules.{rules}
use lib.Ieee.{nan}
use lib.ListN.{length, length-take, take}
use Rattle.routine.proofs.Turns.{one_written, all_written}
use Rattle.routine.proofs.finding.Found.write.Goals as goal

pub loop-i-preserved : goal.loop-i-preserved
loop-i-preserved c =
    let s = c.args.self.now in
    let inv = c.loop-i.invariant in
    let six : length (take s.answer.n s.corners) ≤ s.answer.n = omega (arith, length-take s.answer.n s.corners) in
    record {
      same_length = search rules;
      so_far = one_written _ _ _ (record { x = nan; y = nan }) c.loop-i-test.true (omega (arith, six, c.loop-i-test.true, s.fits, c.requires)) inv.so_far;
    }

pub returns : goal.returns
returns c = all_written _ _ _ c.loop-i.auto.i-end c.loop-i-test.false c.loop-i.invariant.so_far
