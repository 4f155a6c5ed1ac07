-- A test that is computed over all walks, every vertex with one of the seven signs and every edge in one of its admissible orders, holds of the
-- walk of any outcomes of the pair tests. So a new fact about rings is one test. Assumes nothing.
use mathlib.Core.Bool.{Bool}
use mathlib.Core.List.{List, [], ◌∷◌, Memᴰ}
use Prim.Native.Nat.{ℕ}
use lib.Dec.{T, ltb}
use Rattle.floats.specs.Lists.{all}
use Rattle.floats.proofs.Lists.{all_at}
use Rattle.lines.specs.Lines.{sign, start, finish}
use Rattle.order.specs.Order.{ordering_on, orders_of, admissible_orders}
use Rattle.order.proofs.Every.{seven, eight}
use Rattle.order.proofs.Edge.{order_listed}

-- a test of signs and orders
abbrev pub Test : Type 0
Test = List (List Bool) → List (List ℕ) → Bool

abbrev orders : List Bool → List Bool → List (List ℕ)
orders p q = admissible_orders 3 (sign p) (sign q)

-- over all orders, with the signs p, q and r of U's vertices
unfoldable pub in_all_orders : Test → List Bool → List Bool → List Bool → Bool
unfolding all admissible_orders
in_all_orders f p q r = all (λ x. all (λ y. all (λ z. f (p ∷ q ∷ r ∷ []) (x ∷ y ∷ z ∷ [])) (orders r p)) (orders q r)) (orders p q)

-- over all walks whose vertex 0 has the signs p
unfoldable pub walks_from : Test → List Bool → Bool
unfolding all seven in_all_orders
walks_from f p = all (λ q. all (λ r. in_all_orders f p q r) seven) seven

unfoldable pub all_walks : Test → Bool
unfolding all seven walks_from
all_walks f = all (walks_from f) seven

module _ (f : Test) (passes : T (all_walks f)) (p q r : List Bool) (mp : Memᴰ p seven) (mq : Memᴰ q seven) (mr : Memᴰ r seven) where
  at_orders : (x y z : List ℕ) → Memᴰ x (orders p q) → Memᴰ y (orders q r) → Memᴰ z (orders r p) → T (f (p ∷ q ∷ r ∷ []) (x ∷ y ∷ z ∷ []))
  unfolding all_walks walks_from in_all_orders
  at_orders x y z mx my mz =
      all_at _ (orders r p)
      (all_at _ (orders q r)
      (all_at _ (orders p q)
      (all_at (λ r. in_all_orders f p q r) seven
      (all_at (λ q. all (λ r. in_all_orders f p q r) seven) seven
      (all_at (walks_from f) seven passes mp) mq) mr) mx) my) mz

  -- the walk that the outcomes ts give
  pub every_walk : (ts : ℕ → List Bool) → ((e : ℕ) → Memᴰ (ts e) eight) → T (f (p ∷ q ∷ r ∷ []) (orders_of (p ∷ q ∷ r ∷ []) ts))
  unfolding orders_of ordering_on
  every_walk ts mt =
      at_orders _ _ _
      (order_listed (ts 0) (ltb (finish 0) (start 0)) p q (mt 0) mp mq)
      (order_listed (ts 1) (ltb (finish 1) (start 1)) q r (mt 1) mq mr)
      (order_listed (ts 2) (ltb (finish 2) (start 2)) r p (mt 2) mr mp)
