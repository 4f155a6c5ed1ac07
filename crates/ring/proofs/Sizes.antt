-- How many walks there are, and how many of them have a ring of which size: 1,375 in all, as an enumeration apart from these definitions has it.
-- Assumes nothing.
use mathlib.Core.Path.{◌≡◌, refl}
use mathlib.Core.Bool.{Bool}
use mathlib.Core.List.{List, [], ◌∷◌}
use Prim.Native.Nat.{ℕ, ◌+◌, ◌*◌, ◌^◌}
use lib.ListN.{length}
use Rattle.lines.specs.Lines.{sign, signs_at}
use Rattle.order.specs.Order.{admissible_orders, order_at}
use Rattle.order.proofs.Every.{seven}
use Rattle.ring.specs.Ring.{ring}

sum_over : {A : Type 0} → List A → (A → ℕ) → ℕ
sum_over [] f = 0
sum_over (x ∷ xs) f = f x + sum_over xs f

orders : List Bool → List Bool → List (List ℕ)
unfolding admissible_orders
orders p q = admissible_orders 3 (sign p) (sign q)

-- the sum over all walks of 10,000 to the power of the ring's size: its digits, four by four, are the numbers of walks with a ring of 0, 1, 2, .. corners
unfoldable pub by_size : ℕ
unfolding sum_over orders seven ring
by_size =
    sum_over seven (λ p. sum_over seven (λ q. sum_over seven (λ r.
    sum_over (orders p q) (λ x. sum_over (orders q r) (λ y. sum_over (orders r p) (λ z.
    10000 ^ length (ring (signs_at (p ∷ q ∷ r ∷ [])) (order_at (x ∷ y ∷ z ∷ [])))))))))

pub sizes : by_size ≡ 222 + 436 * 10000 ^ 3 + 459 * 10000 ^ 4 + 216 * 10000 ^ 5 + 42 * 10000 ^ 6
unfolding by_size
sizes = refl
