-- Before each turn the numbers so far stand in the room, one behind the other.
use Prim.Native.Nat.{◌*◌}
use mathlib.Core.Path.{◌≡◌}
use Rattle.text.specs.Room.{Put}
use Rattle.filing.specs.File.{joined}
use Rattle.storing.proofs.Stores.{bytes_of}
use Rattle.storing.proofs.put_numbers.Given as goal

abbrev pub invariant-loop-z : goal.invariant-loop-z
invariant-loop-z l = (l.to ≡ 4 * l.z-index) × Put l.initial.room 0 (joined (bytes_of l.numbers) l.z-index) l.room l.to
