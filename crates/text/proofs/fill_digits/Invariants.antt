-- The digits that are left to put, with the room behind them, are all of them.
use lib.ListN.{length, drop}
use mathlib.Core.Path.{◌≡◌}
use mathlib.Core.List.{◌++◌}
use Rattle.text.specs.Code.{digits}
use Rattle.text.proofs.fill_digits.Given as goal

abbrev pub invariant-loop-i : goal.invariant-loop-i
invariant-loop-i l = digits l.i l.m ++ drop l.i l.room ≡ digits (length l.initial.room) l.n
