-- The first of them stand in the room.
use lib.ListN.{length, take}
use mathlib.Core.Path.{◌≡◌}
use Rattle.text.proofs.copy.Given as goal

abbrev pub invariant-loop-k : goal.invariant-loop-k
invariant-loop-k l = (length l.room ≡ length l.bytes) × (take l.k l.room ≡ take l.k l.bytes)
