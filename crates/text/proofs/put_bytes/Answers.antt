-- What does not fit is not put; what fits is copied.
use mathlib.Core.Path.{refl}
use Rattle.text.proofs.Room.{put_not, put_part}
use Rattle.text.proofs.put_bytes.Goals as goal

pub returns-in_err-behind-clause-placed : goal.returns-in_err-behind-clause-placed
returns-in_err-behind-clause-placed c = let g = c.args in rw c.from_residual.ensures (put_not g.room.now g.bytes.now g.at c.in_err-behind.ensures refl)

pub returns-clause-placed : goal.returns-clause-placed
returns-clause-placed c = let g = c.args in put_part g.room.now g.bytes.now g.at c.in_ok-behind.ensures c.copy.ensures
