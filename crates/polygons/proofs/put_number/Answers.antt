-- The size behind the minus sign, or over it.
use Rattle.polygons.proofs.Numbers.{number_put, number_some, behind_sign}
use native.Mathlib.Omega.{arith}
use Rattle.polygons.proofs.put_number.Goals as goal

pub bounds-room-at : goal.bounds-room-at
bounds-room-at c = let n = number_some c.args.v in omega (arith, n, c.requires)

pub put_size-requires : goal.put_size-requires
put_size-requires c = (omega (arith, c.size_of.ensures.1), behind_sign c.args.room.now c.args.at c.args.v c.sign_length.ensures.0 c.size_of.ensures.0 c.requires)

pub returns : goal.returns
returns c = number_put c.args.room.now c.args.at c.args.v c.ranges.v.fits c.sign_length.ensures.0 c.size_of.ensures.0 c.requires c.put_size.ensures
