-- A pair test is computed exactly if the order turns on it: with that one outcome turned, the order is another. So no test that decided is left
-- out, and none is asked that decides nothing. One computed test over all signs and outcomes. Assumes nothing.
use mathlib.Core.Path.{◌≡◌}
use mathlib.Core.Bool.{Bool, false, not, beq}
use mathlib.Core.List.{List, Memᴰ}
use Prim.Native.Nat.{ℕ}
use lib.Dec.{T, eqb}
use lib.ListN.{get_or, set}
use Rattle.floats.specs.Lists.{all, any}
use Rattle.floats.proofs.Lists.{all_at, same_bool, bools, in_bools}
use Rattle.lines.specs.Lines.{three, sign, corner_on}
use Rattle.order.specs.Order.{Ordering, order_along}
use Rattle.order.proofs.Every.{seven, eight}
use Rattle.order.proofs.Edge.{same_order}

-- the pair test of the two lines through corner k is among those computed
unfoldable pub asks : Ordering → ℕ → Bool
unfolding any
asks d k = any (λ t. eqb (corner_on t.0 t.1) k) d.tests

-- with outcome k turned the order is another
unfoldable pub turns_on : List Bool → Bool → List Bool → List Bool → ℕ → Bool
unfolding same_order order_along
turns_on t back p q k = not (same_order (order_along t back (sign p) (sign q)).order (order_along (set t k (not (get_or t k false))) back (sign p) (sign q)).order)

matches : List Bool → Bool → List Bool → List Bool → ℕ → Bool
matches t back p q k = beq (asks (order_along t back (sign p) (sign q)) k) (turns_on t back p q k)

all_match : T (all (λ t. all (λ back. all (λ p. all (λ q. all (matches t back p q) three) seven) seven) bools) eight)
unfolding matches asks turns_on order_along seven eight bools all
all_match = tt

pub asked_exactly : (t : List Bool) (back : Bool) (p q : List Bool) (k : ℕ) → Memᴰ t eight → Memᴰ p seven → Memᴰ q seven → Memᴰ k three →
    asks (order_along t back (sign p) (sign q)) k ≡ turns_on t back p q k
unfolding matches
asked_exactly t back p q k mt mp mq mk =
    same_bool _ _
    (all_at (matches t back p q) three
    (all_at (λ q. all (matches t back p q) three) seven
    (all_at (λ p. all (λ q. all (matches t back p q) three) seven) seven
    (all_at (λ back. all (λ p. all (λ q. all (matches t back p q) three) seven) seven) bools
    (all_at (λ t. all (λ back. all (λ p. all (λ q. all (matches t back p q) three) seven) seven) bools) eight all_match mt)
    (in_bools back)) mp) mq) mk)
