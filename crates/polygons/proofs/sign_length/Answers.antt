-- One byte below zero, else none.
use Rattle.polygons.proofs.Numbers.{sign_Measured, read_again}
use Rattle.polygons.proofs.sign_length.Goals as goal

pub returns : goal.returns
returns c = rw (c.from.ensures, read_again c.args.v c.ranges.v.fits c.cast_signed.ensures) (sign_Measured _)
