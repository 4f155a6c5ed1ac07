-- The words, each with its number, and the line feed are the line.
use native.Mathlib.Omega.{arith}
use Rattle.text.proofs.Room.{put_as, fits_as}
use Rattle.wording.proofs.Lines.{refused_is}
use Rattle.wording.proofs.put_refusal.Goals as goal

pub returns-clause-placed : goal.returns-clause-placed
returns-clause-placed c = let g = c.args in put_as (refused_is g.number g.place) (rw (c.then-2.ensures, c.then-line-2.ensures, c.then.ensures, c.then-line.ensures) at c.put.ensures.placed)

pub returns-clause-fits : goal.returns-clause-fits
returns-clause-fits c =
    let g = c.args in
    let f = fits_as g.room.now 0 c.put.result (refused_is g.number g.place) (rw (c.then-2.ensures, c.then-line-2.ensures, c.then.ensures, c.then-line.ensures) at c.put.ensures.fits) in
    (λ s. omega (arith, f.0 s), λ h. f.1 (omega (arith, h)))
