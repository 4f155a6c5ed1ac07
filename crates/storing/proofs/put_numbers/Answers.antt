-- Where the room is shorter than four bytes a number nothing is put; else each turn puts one number more.
use lib.IntN.{pos}
use lib.ListN.{get_or}
use mathlib.Core.Path.{refl, ◌∙◌}
use mir.Val.{SFits}
use mir.ValLaws.{to_z-of_z}
use mir.Syntax.{w32}
use native.Mathlib.Omega.{arith}
use Rattle.std.proofs.Common.{rules}
use Rattle.filing.proofs.Joined.{joined_none}
use Rattle.storing.proofs.Stores.{bytes_of, no_numbers, one_more, all_Put}
use Rattle.storing.proofs.put_numbers.Goals as goal

pub returns-then-room-numbers-clause-placed : goal.returns-then-room-numbers-clause-placed
returns-then-room-numbers-clause-placed c = no_numbers c.args.room.now c.args.numbers.now c.if-room-numbers.true

pub loop-z-init : goal.loop-z-init
loop-z-init c = (refl, joined_none (bytes_of c.args.numbers.now) 4 (λ k. refl) c.args.room.now 0)

pub loop-z-preserved : goal.loop-z-preserved
loop-z-preserved c =
    let l = c.loop-z in
    let f : SFits w32 (get_or c.args.numbers.now l.z-index (pos 0)) = search rules in (
      omega (arith, l.invariant.0),
      one_more c.args.numbers.now _ l.z-index c.loop-z-test.true (omega arith) l.invariant.0 l.invariant.1 (to_z-of_z w32 (get_or c.args.numbers.now l.z-index (pos 0)) f) (c.copy_from_slice.ensures.after ∙ c.to_le_bytes.ensures),
    )

pub returns-clause-placed : goal.returns-clause-placed
returns-clause-placed c = let l = c.loop-z in all_Put c.args.numbers.now l.z-index (omega arith) l.invariant.1
