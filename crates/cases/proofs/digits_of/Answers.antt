-- What is left to spell gives the room that is to be.
use Prim.Native.Nat.{ℕ, ◌*◌}
use native.Mathlib.Omega.{arith}
use mathlib.Core.Path.{sym, ap, ◌∙◌}
use lib.ListN.{length-set}
use Rattle.cases.proofs.Laws.{spell_turn, spell_end}
use Rattle.cases.proofs.digits_of.Goals as goal

pub loop-k-preserved : goal.loop-k-preserved
loop-k-preserved c = let l = c.loop-k in (omega arith, simp length-set (omega (arith, l.invariant.1)), sym (spell_turn _ _ _ _ _ _ c.loop-k-test.true c.glyph.ensures c.glyph-in-loop-k.ensures) ∙ l.invariant.2)

pub returns : goal.returns
returns c = let l = c.loop-k in let m = c.min-n in (ap (λ (n : ℕ). 2 * n) m.ensures, spell_end _ _ _ _ _ m.ensures (omega (arith, m.ensures)) c.loop-k-test.false l.invariant.2, omega (arith, m.ensures, l.invariant.1))
