-- The i32 that is asked for its size is the number.
use Rattle.polygons.proofs.Numbers.{read_again}
use lib.IntN.{nat_abs}
use mathlib.Core.Path.{ap, ◌∙◌}
use Rattle.polygons.proofs.size_of.Goals as goal

pub returns : goal.returns
returns c = (c.unsigned_abs.ensures.value ∙ ap nat_abs (read_again c.args.v c.ranges.v.fits c.cast_signed.ensures), c.unsigned_abs.ensures.bound)
