-- Twenty bytes and a number.
use native.Mathlib.Omega.{arith}
use Rattle.wording.proofs.Lines.{formerly_length}
use Rattle.wording.proofs.formerly_length.Goals as goal

pub returns : goal.returns
returns c = let w = c.width.ensures in (omega (arith, formerly_length c.args.k, w.0), omega (arith, w.1))
