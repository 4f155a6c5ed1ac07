-- Each turn puts the own box of one more recording.
use native.Mathlib.Omega.{arith}
use borrow.Author.Rules.{rules}
use Rattle.leaklist.proofs.Frames.{own_turn}
use Rattle.leaklist.proofs.framed.frame_own.Goals as goal

pub loop-k-preserved : goal.loop-k-preserved
loop-k-preserved c = let g = c.args in
    let l = c.loop-k in
    (search rules, own_turn g.file.now g.bounds.now l.own l.k g.at (omega (arith, c.loop-k-test.true, l.invariant.0)) c.requires.1 c.entry_at-e.ensures.0 c.around_from.ensures l.invariant.1)
