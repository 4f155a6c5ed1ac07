-- The leak line of three numbers, as the code has them. Definitions only.
use Rattle.std.specs.Prelude.{ℕ, List}
use Rattle.listing.specs.Words.{leak_line}

-- the leak line of two ids and N
abbrev pub leak_line_of : ℕ → ℕ → ℕ → List ℕ
leak_line_of test train n = leak_line (record { test = test; train = train; pairs = n })
