-- Where there is space, as much as there is space for is laid from the place on; from a place past the buffer nothing is.
use mathlib.Core.Path.{sym, ap, ◌∙◌}
use native.Mathlib.Omega.{arith}
use Rattle.text.specs.Room.{laid}
use Rattle.arrival.proofs.Put.{put_past}
use Rattle.arriving.proofs.Laid.{laid_as_put}
use Rattle.arriving.proofs.put.Goals as goal

pub returns-then-at-size : goal.returns-then-at-size
returns-then-at-size c =
    let g = c.args in
    let room = c.if-at-size.true in
    c.put_bytes.ensures.placed.after_is
    ∙ (ap (laid g.buffer.now g.at) c.front.ensures ∙ laid_as_put g.buffer.now g.bytes.now g.at (omega (arith, room)))

pub returns-else-at-size : goal.returns-else-at-size
returns-else-at-size c = let g = c.args in sym (put_past g.buffer.now g.at g.bytes.now c.if-at-size.false)
