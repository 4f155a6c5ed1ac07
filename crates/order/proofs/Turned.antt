-- A pair test takes the lower vertex and the lower line first, and at a tie has that line met first; seen from the higher vertex, or asked of the
-- higher line, its answer is turned. Assumes nothing.
use mathlib.Core.Path.{◌≡◌, refl}
use mathlib.Core.Bool.{Bool, true, not, ◌&&◌, ◌||◌}
use mathlib.Core.List.{List}
use Prim.Native.Nat.{ℕ}
use lib.Dec.{T, eqb}
use lib.IntN.{pos, negsuc}
use lib.Ieee.{Float, binary64, of_int, of_bits, add, sub, mul, neg, lt, le, eq}
use Rattle.floats.specs.Lists.{all, differ}
use Rattle.floats.specs.Numbers.{Numbers}
use Rattle.floats.specs.Way.{Way, given, f64}
use Rattle.floats.proofs.Lists.{bools}
use Rattle.lines.specs.Lines.{three}
use Rattle.lines.specs.Parameters.{Parameters, last_unseen, signs}
use Rattle.order.specs.PairTest.{pair_d, met_first, pair_d_on, outcome_on}
use Rattle.order.specs.Order.{before}
use Rattle.order.proofs.Every.{seven, eight}

-- on edge 2, which the walk takes from its higher vertex, the pair tests start at U0 all the same
pub from_lower_end : (K : Numbers) (ps : ℕ → Parameters K.N) (a b : ℕ) → (pair_d_on K ps 0 a b ≡ pair_d K (ps 0) (ps 1) a b) × (pair_d_on K ps 1 a b ≡ pair_d K (ps 1) (ps 2) a b) × (pair_d_on K ps 2 a b ≡ pair_d K (ps 0) (ps 2) a b)
from_lower_end K ps a b = (refl, refl, refl)

-- and what is compared is what is judged: the outcome is read off that very D
pub outcome_from_lower_end : (K : Numbers) (ps : ℕ → Parameters K.N) (a b : ℕ) → outcome_on K ps 2 a b ≡ met_first K (signs K (ps 0)) (pair_d K (ps 0) (ps 2) a b) a b
unfolding outcome_on
outcome_from_lower_end K ps a b = refl

-- turned with the end, and with the lines
abbrev turns : List Bool → Bool → ℕ → ℕ → Bool
turns t back a b = differ (before t back a b) (before t (not back) a b) && (eqb a b || differ (before t back a b) (before t back b a))

pub all_turn : T (all (λ t. all (λ back. all (λ a. all (λ b. turns t back a b) three) three) bools) eight)
unfolding before all eight seven bools
all_turn = tt

-- a vertex with the parameters x and y, and w = 2
abbrev vertex_at : Float → Float → Parameters Way
vertex_at x y = record { x = given x; y = given y; w = given (of_int binary64 (pos 2)) }

-- at a tie, D = 0: with the same sign at Ui, and with different signs there, line 0 is met before line 1
abbrev one : Float
one = of_int binary64 (pos 1)

abbrev minus_one : Float
minus_one = of_int binary64 (negsuc 0)

abbrev Tied : Parameters Way → Parameters Way → Type 0
Tied p q = (f64.is_zero (pair_d f64 p q 0 1) ≡ true) × (met_first f64 (signs f64 p) (pair_d f64 p q 0 1) 0 1 ≡ true)

pub tie_same_sign : Tied (vertex_at minus_one minus_one) (vertex_at one one)
unfolding met_first signs last_unseen add sub mul neg lt le eq of_int of_bits
tie_same_sign = (refl, refl)

pub tie_different_sign : Tied (vertex_at minus_one one) (vertex_at one minus_one)
unfolding met_first signs last_unseen add sub mul neg lt le eq of_int of_bits
tie_different_sign = (refl, refl)
