-- What is judged is what was compared: the outcome that orders two lines on an edge is read off the very D whose way the pair tests' row looks
-- at. Assumes nothing.
use mathlib.Core.Path.{◌≡◌, refl}
use mathlib.Core.Bool.{false}
use mathlib.Core.List.{List}
use Prim.Native.Nat.{ℕ, zero, suc, ◌<◌}
use native.Mathlib.Omega.{arith}
use lib.ListN.{get_or}
use lib.Ieee.{Float}
use Rattle.floats.specs.Way.{f64}
use Rattle.lines.specs.Lines.{lower_end, lower_line, upper_line}
use Rattle.lines.specs.Parameters.{signs}
use Rattle.order.specs.PairTest.{met_first, outcome_on, outcomes_on}
use Rattle.triangles.specs.Pair.{carried_by, outcomes_of, pair_d_of}

-- of the lines through corner k, on edge e
pub judged : (l : List Float) (e k : ℕ) → k < 3 → get_or (outcomes_of l e) k false ≡ met_first f64 (signs f64 (carried_by l (lower_end e))) (pair_d_of l (e, (lower_line k, upper_line k))) (lower_line k) (upper_line k)
unfolding outcomes_of outcomes_on outcome_on pair_d_of
judged l e zero h = refl
judged l e (suc zero) h = refl
judged l e (suc (suc zero)) h = refl
judged l e (suc (suc (suc k))) h = absurd (omega arith)
