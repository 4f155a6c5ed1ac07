-- Each turn takes one more digit.
use mathlib.Core.Path.{◌≡◌}
use Rattle.cases.specs.Digits.{number_to}
use Rattle.cases.proofs.number_of.Given as goal

abbrev pub invariant-loop-b : goal.invariant-loop-b
invariant-loop-b l = l.v ≡ number_to l.text l.b-index
