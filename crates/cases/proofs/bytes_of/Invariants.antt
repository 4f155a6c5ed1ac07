-- What is left to lay gives the room that is to be.
use Prim.Native.Nat.{◌≤◌, ◌-◌}
use mathlib.Core.Path.{◌≡◌}
use lib.ListN.{length}
use lib.Seq.{sets}
use Rattle.cases.specs.Digits.{bytes_from}
use Rattle.cases.proofs.bytes_of.Given as goal

abbrev pub invariant-loop-k : goal.invariant-loop-k
invariant-loop-k l = (l.k ≤ l.n) × (length l.room ≡ length l.initial.room) × (sets l.room l.k (bytes_from l.text (l.n - l.k) l.k) ≡ sets l.initial.room 0 (bytes_from l.text l.n 0))
