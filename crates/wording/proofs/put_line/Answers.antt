-- The words, each with its number, and the line feed are the line.
use Rattle.text.proofs.Room.{put_as, fits_as}
use Rattle.wording.proofs.Lines.{line_is}
use Rattle.wording.proofs.put_line.Goals as goal

pub returns-clause-placed : goal.returns-clause-placed
returns-clause-placed c = let g = c.args in put_as (line_is g.test g.train g.n) (rw (c.then-3.ensures, c.then-line-3.ensures, c.then-2.ensures, c.then-line-2.ensures, c.then.ensures, c.then-line.ensures) at c.put.ensures.placed)

pub returns-clause-fits : goal.returns-clause-fits
returns-clause-fits c = let g = c.args in fits_as g.room.now g.at c.put.result (line_is g.test g.train g.n) (rw (c.then-3.ensures, c.then-line-3.ensures, c.then-2.ensures, c.then-line-2.ensures, c.then.ensures, c.then-line.ensures) at c.put.ensures.fits)
