-- Seven bytes and a number.
use native.Mathlib.Omega.{arith}
use Rattle.wording.proofs.Lines.{first_length}
use Rattle.wording.proofs.first_length.Goals as goal

pub returns : goal.returns
returns c = let w = c.width.ensures in (omega (arith, first_length c.args.k, w.0), omega (arith, w.1))
