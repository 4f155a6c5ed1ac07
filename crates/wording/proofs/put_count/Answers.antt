-- The word, the number and the line feed are the line.
use Rattle.text.proofs.Room.{put_as, fits_as}
use Rattle.wording.proofs.Lines.{count_is}
use Rattle.wording.proofs.put_count.Goals as goal

pub returns-clause-placed : goal.returns-clause-placed
returns-clause-placed c = let g = c.args in put_as (count_is g.word.now g.k) (rw (c.then-2.ensures, c.then.ensures) at c.put.ensures.placed)

pub returns-clause-fits : goal.returns-clause-fits
returns-clause-fits c = let g = c.args in fits_as g.room.now g.at c.put.result (count_is g.word.now g.k) (rw (c.then-2.ensures, c.then.ensures) at c.put.ensures.fits)
