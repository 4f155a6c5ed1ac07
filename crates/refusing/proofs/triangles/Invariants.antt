-- Before each turn the triangles that are left say what all say.
use Prim.Native.Nat.{◌-◌, ◌/◌}
use mathlib.Core.List.{[]}
use lib.ListN.{length}
use mathlib.Core.Path.{◌≡◌}
use Rattle.filing.specs.Given.{given_of}
use Rattle.filing.specs.Refusals.{first_from, triangle_number}
use Rattle.refusing.proofs.triangles.Given as goal

abbrev pub invariant-loop-six : goal.invariant-loop-six
invariant-loop-six l = first_from (triangle_number (given_of [] [] [] [] l.numbers)) (length l.numbers / 6) 0 ≡ first_from (triangle_number (given_of [] [] [] [] l.numbers)) (length l.numbers / 6 - l.six-index) l.six-index
