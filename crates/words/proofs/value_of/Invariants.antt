-- What is left to read gives the number of all.
use Rattle.text.specs.Decimal.{read_on, read}
use Prim.Native.Nat.{◌<◌}
use lib.ListN.{drop}
use mathlib.Core.Path.{◌≡◌}
use Rattle.words.proofs.value_of.Given as goal

abbrev pub invariant-loop-b : goal.invariant-loop-b
invariant-loop-b l = (read_on l.n (drop l.b-index l.word) ≡ read l.word) × (l.n < 4294967296)
