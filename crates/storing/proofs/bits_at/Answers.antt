-- std's bits of a number are those of the rules, and beyond the end the list has 0.
use lib.IntN.{pos}
use mathlib.Core.Path.{ap, ◌∙◌}
use native.Mathlib.Omega.{arith}
use mir.Val.{SFits, of_z}
use mir.ValLaws.{to_z-of_z}
use mir.Syntax.{w32}
use Rattle.std.specs.Int.{cast_unsigned}
use Rattle.std.specs.Option.{unwrap_or}
use Rattle.layout.specs.Bytes.{signed}
use Rattle.filing.specs.File.{bits_of}
use Rattle.filing.proofs.Bytes.{signed_bits}
use Rattle.storing.proofs.Stores.{bits_are}
use Rattle.storing.proofs.bits_at.Goals as goal

pub returns : goal.returns
returns c =
    let f : SFits w32 c.unwrap_or.result = record { sfits = c.unwrap_or.type_inv } in
    let z = c.unwrap_or.ensures ∙ (ap (λ o. unwrap_or o (pos 0)) c.copied.ensures ∙ c.get.ensures.lookup.4 (omega arith) (pos 0)) in
    let e = c.cast_unsigned.ensures ∙ (ap (cast_unsigned w32) (to_z-of_z w32 c.unwrap_or.result f) ∙ bits_are c.unwrap_or.result) in
    (e ∙ ap bits_of z, ap signed e ∙ (signed_bits c.unwrap_or.result f ∙ z))
