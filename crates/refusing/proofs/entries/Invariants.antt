-- Before each turn the entries that are left say what all say.
use Prim.Native.Nat.{◌-◌}
use lib.ListN.{length}
use mathlib.Core.Path.{◌≡◌}
use Rattle.filing.specs.Lists.{given}
use Rattle.filing.specs.Refusals.{first_from, entry_number}
use Rattle.refusing.proofs.entries.Given as goal

abbrev pub invariant-loop-i : goal.invariant-loop-i
invariant-loop-i l = first_from (entry_number (given l.lists)) (length l.lists.ids.now) 0 ≡ first_from (entry_number (given l.lists)) (length l.lists.ids.now - l.i) l.i
