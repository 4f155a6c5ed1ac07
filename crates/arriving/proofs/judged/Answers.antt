-- More than a file may have is 11; else the front of the buffer is checked.
use mathlib.Core.Path.{sym, ap, ◌∙◌}
use Rattle.layout.specs.Verdict.{verdict}
use Rattle.arrival.proofs.Returned.{judged_file, judged_long}
use Rattle.arriving.proofs.judged.Goals as goal

pub returns-then-n-gt-SIZE : goal.returns-then-n-gt-SIZE
returns-then-n-gt-SIZE c = let g = c.args in c.from.ensures ∙ sym (judged_long g.arrived g.buffer.now c.if-n-gt-SIZE.true)

pub returns : goal.returns
returns c =
    let g = c.args in
    c.check.ensures ∙ (ap verdict c.front.ensures ∙ sym (judged_file g.arrived g.buffer.now c.if-n-gt-SIZE.false))
