-- What is left to spell gives the room that is to be.
use Prim.Native.Nat.{◌≤◌, ◌-◌, ◌*◌}
use mathlib.Core.Path.{◌≡◌}
use lib.ListN.{length}
use lib.Seq.{sets}
use Rattle.cases.specs.Digits.{digits_from}
use Rattle.cases.proofs.digits_of.Given as goal

abbrev pub invariant-loop-k : goal.invariant-loop-k
invariant-loop-k l = (l.k ≤ l.n) × (length l.room ≡ length l.initial.room) × (sets l.room (2 * l.k) (digits_from l.bytes (l.n - l.k) l.k) ≡ sets l.initial.room 0 (digits_from l.bytes l.n 0))
