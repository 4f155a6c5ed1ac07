-- Each turn adds one more line.
use lib.ListN.{length}
use mathlib.Core.Path.{sym, ap}
use native.Mathlib.Omega.{arith}
use Rattle.writing.proofs.Lines.{lines_none, lines_turn}
use Rattle.writing.proofs.lines_length.Goals as goal

pub loop-test-init : goal.loop-test-init
loop-test-init c = (sym (ap length lines_none), omega arith)

pub loop-test-preserved : goal.loop-test-preserved
loop-test-preserved c = let l = c.loop-test in
    let t = c.line_length-sum.ensures in
    (lines_turn c.args.triples.now l.test-index (omega arith) l.invariant.0 t.0, omega (arith, t.1, l.invariant.1))
