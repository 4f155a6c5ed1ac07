-- Measured, or plainly enough.
use Rattle.polygons.proofs.Pieces.{at_most}
use borrow.Author.Tests.{le-leb}
use native.Mathlib.Omega.{arith}
use Rattle.polygons.proofs.is_enough.Goals as goal

pub returns-then-left-ge-MOST : goal.returns-then-left-ge-MOST
returns-then-left-ge-MOST c = let m = at_most c.args.six.now c.fits-six in (λ t. omega (arith, m, c.if-left-ge-MOST.true), λ f. le-leb _ _ c.if-left-ge-MOST.true)
