-- Each turn puts one more line behind those before.
use lib.ListN.{length}
use mathlib.Core.Bool.{false≢true}
use native.Mathlib.Omega.{arith}
use Rattle.text.proofs.Room.{put_next, Put-length}
use Rattle.writing.proofs.Lines.{Put-no_line, Put-line_more, more_fit}
use Rattle.writing.proofs.put_lines.Goals as goal

pub loop-test-init : goal.loop-test-init
loop-test-init c = let g = c.args in Put-no_line g.room.now g.at

pub returns-in_err-next : goal.returns-in_err-next
returns-in_err-next c = let l = c.loop-test in
    let g = c.args in
    let fit = more_fit g.triples.now l.test-index (omega arith) g.at (length g.room.now) c.requires in
    absurd (false≢true (c.in_err-next.ensures.fits.1 (omega (arith, fit, Put-length l.invariant, put_next l.invariant (omega (arith, fit))))))

pub loop-test-preserved : goal.loop-test-preserved
loop-test-preserved c = let l = c.loop-test in
    let g = c.args in
    Put-line_more g.triples.now l.test-index (omega arith) c.requires l.invariant c.in_ok-next.ensures.placed
