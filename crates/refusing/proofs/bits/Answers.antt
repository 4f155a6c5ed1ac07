-- The bits of each number stand for it.
use mathlib.Core.Path.{◌≡◌, ap, ◌∙◌}
use lib.IntN.{pos}
use lib.ListN.{get_or}
use mir.Val.{SFits, to_z, of_z}
use mir.ValLaws.{to_z-of_z}
use mir.Syntax.{w32}
use Rattle.std.specs.Int.{cast_unsigned}
use Rattle.std.proofs.Common.{rules, tests}
use Rattle.layout.specs.Bytes.{signed}
use Rattle.filing.proofs.Bytes.{signed_bits}
use Rattle.storing.proofs.Stores.{bits_are}
use Rattle.refusing.proofs.Turns.{by_bits}
use Rattle.refusing.proofs.bits.Goals as goal

pub returns : goal.returns
returns c = by_bits c.map.result c.args.six (λ i l.
    let at = (c.map.ensures.items.at i (pos 0) 0 l).2 in
    let f : SFits w32 (get_or c.args.six i (pos 0)) = search rules in
    let e : get_or c.map.result i 0 ≡ cast_unsigned w32 (to_z w32 (of_z w32 (get_or c.args.six i (pos 0)))) = search (rules, tests) in
    ap signed (e ∙ (ap (cast_unsigned w32) (to_z-of_z w32 (get_or c.args.six i (pos 0)) f) ∙ bits_are (get_or c.args.six i (pos 0)))) ∙ signed_bits (get_or c.args.six i (pos 0)) f)
