-- Before each turn the entries so far stand in the room, and the next one's triangles begin where theirs end.
use Prim.Native.Nat.{◌*◌}
use mathlib.Core.Path.{◌≡◌}
use Rattle.text.specs.Room.{Put}
use Rattle.filing.specs.Given.{sum_to}
use Rattle.filing.specs.Lists.{given}
use Rattle.filing.specs.File.{joined}
use Rattle.filer.proofs.Tables.{bytes_of}
use Rattle.filer.proofs.put_table.Given as goal

abbrev pub invariant-loop-i : goal.invariant-loop-i
invariant-loop-i l = (l.first ≡ 24 * sum_to (given l.lists) l.i) × Put l.initial.room l.at (joined (bytes_of (given l.lists)) l.i) l.room l.to
