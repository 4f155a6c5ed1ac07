-- Nought over nought is no number.
use mathlib.Core.Path.{refl}
use lib.Ieee.{div, of_bits}
use Rattle.boxed.proofs.no_box.Goals as goal

pub returns : goal.returns
unfolding div of_bits
returns c = refl
