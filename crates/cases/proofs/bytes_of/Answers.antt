-- What is left to lay gives the room that is to be.
use native.Mathlib.Omega.{arith}
use mathlib.Core.Path.{sym, ◌∙◌}
use lib.ListN.{length-set}
use Rattle.cases.proofs.Laws.{fill_turn, fill_end}
use Rattle.cases.proofs.bytes_of.Goals as goal

pub loop-k-preserved : goal.loop-k-preserved
loop-k-preserved c = let l = c.loop-k in (omega arith, simp length-set (omega (arith, l.invariant.1)), sym (fill_turn _ _ _ _ _ c.loop-k-test.true c.byte_of.ensures) ∙ l.invariant.2)

pub returns : goal.returns
returns c = let l = c.loop-k in let m = c.min-n in (m.ensures, fill_end _ _ _ _ _ m.ensures (omega (arith, m.ensures)) c.loop-k-test.false l.invariant.2, omega (arith, m.ensures, l.invariant.1))
