-- The number is that of the four bytes.
use mir.ValLaws.{to_z-of_z}
use mir.Syntax.{w32}
use mathlib.Core.Path.{ap, ◌∙◌}
use Rattle.std.proofs.Common.{rules}
use Rattle.layout.specs.Bytes.{signed, i32_at}
use Rattle.reading.proofs.Signed.{signed_is}
use Rattle.reading.proofs.i32_at.Goals as goal

pub returns : goal.returns
unfolding i32_at
returns c = to_z-of_z w32 _ (search rules) ∙ (c.cast_signed.ensures ∙ (signed_is c.u32_at.result (search rules) ∙ ap signed c.u32_at.ensures))
