-- No triple is read.
use mathlib.Core.Path.{refl}
use Rattle.leaklist.proofs.found.Found.nothing.Goals as goal

pub returns : goal.returns
returns c = let d = c.default-counts.ensures in rw (d.0, d.1.0, d.1.1) (refl, refl, refl)
