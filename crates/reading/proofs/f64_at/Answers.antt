-- An i32 becomes the f64 of the same whole number.
use mir.ValLaws.{to_z-of_z}
use mir.Syntax.{w32}
use borrow.Author.Rules.{sfits_of}
use mathlib.Core.Path.{ap, ◌∙◌}
use lib.Ieee.{binary64, of_int}
use Rattle.layout.specs.Recordings.{f64_at}
use Rattle.reading.proofs.f64_at.Goals as goal

pub returns : goal.returns
unfolding f64_at
returns c = ap (of_int binary64) (to_z-of_z w32 _ (sfits_of {z = c.i32_at.result} c.i32_at.type_inv) ∙ c.i32_at.ensures)
