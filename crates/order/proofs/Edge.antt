-- Whatever an edge's pair tests say: its order meets each line that it crosses once and no other, it is admissible, and each admissible order
-- can come. One computed test over all signs and outcomes shows it. Assumes nothing.
use mathlib.Core.Path.{◌≡◌, refl, ◌∙◌}
use mathlib.Core.Bool.{Bool, true, false, ◌&&◌}
use mathlib.Core.List.{List, [], ◌∷◌, Memᴰ}
use Prim.Native.Nat.{ℕ, ◌≤◌, ◌<◌}
use native.Mathlib.Omega.{arith}
use lib.Dec.{T, eqb, ltb, eqb→eq, ltb→lt}
use lib.Ieee.Fits.{and_l, and_r}
use lib.ListN.{length, get_or-eq_default}
use borrow.Author.Tests.{ne_eqb, ltb-true, ltb-false}
use Rattle.floats.specs.Lists.{all, any, count, once}
use Rattle.floats.proofs.Lists.{all_at, any_member, same_list, same_list_lem, bools, in_bools}
use Rattle.lines.specs.Lines.{three, sign}
use Rattle.lines.specs.Crossings.{crosses, admissible}
use Rattle.order.specs.Order.{Ordering, order_along, admissible_orders}
use Rattle.order.proofs.Every.{seven, eight, in_three}

unfoldable pub same_order : List ℕ → List ℕ → Bool
unfolding same_list
same_order = same_list eqb

pub same_order_lem : (x y : List ℕ) → T (same_order x y) → x ≡ y
unfolding same_order
same_order_lem = same_list_lem eqb eqb→eq

-- ---- one edge
-- each of the three lines is met once if it is crossed, else not at all
met_once : (ℕ → Bool) → (ℕ → Bool) → List ℕ → Bool
met_once p q o = all (λ a. eqb (count (eqb a) o) (once (crosses p q a))) three

-- a pair test is computed only of two lines that the edge crosses, the lower one first
fitting : (ℕ → Bool) → (ℕ → Bool) → ℕ × ℕ → Bool
fitting p q t = crosses p q t.0 && crosses p q t.1 && ltb t.0 t.1

right : List Bool → Bool → List Bool → List Bool → Bool
right t back p q =
    let d = order_along t back (sign p) (sign q) in
    met_once (sign p) (sign q) d.order
    && (all (λ a. ltb a 3) d.order
    && (admissible 3 (sign p) d.order
    && (any (same_order d.order) (admissible_orders 3 (sign p) (sign q))
    && all (fitting (sign p) (sign q)) d.tests)))

all_right : T (all (λ t. all (λ back. all (λ p. all (right t back p) seven) seven) bools) eight)
unfolding right met_once fitting seven eight bools same_order order_along admissible_orders admissible all any count
all_right = tt

-- each admissible order is that of some outcomes
abbrev reachable : Bool → List Bool → List Bool → Bool
reachable back p q = all (λ o. any (λ t. same_order o (order_along t back (sign p) (sign q)).order) eight) (admissible_orders 3 (sign p) (sign q))

pub all-reachable : T (all (λ back. all (λ p. all (reachable back p) seven) seven) bools)
unfolding seven eight bools same_order order_along admissible_orders all any
all-reachable = tt

-- a line that is none of those below 3 stands in no order of those
beyond : (o : List ℕ) → T (all (λ a. ltb a 3) o) → (a : ℕ) → 3 ≤ a → count (eqb a) o ≡ 0
unfolding all count
beyond [] t a h = refl
beyond (b ∷ o) t a h = rw (ne_eqb a b (λ e. below e)) (beyond o (and_r (ltb b 3) (all (λ a. ltb a 3) o) t) a h)
  where
    below : a ≡ b → ⊥
    below e = let k : b < 3 = ltb→lt b 3 (and_l (ltb b 3) (all (λ a. ltb a 3) o) t) in omega arith

three_signs : (p : List Bool) → T (all (λ p. eqb (length p) 3) seven)
unfolding all seven
three_signs p = tt

module _ (t : List Bool) (back : Bool) (p q : List Bool) (mt : Memᴰ t eight) (mp : Memᴰ p seven) (mq : Memᴰ q seven) where
  abbrev d : Ordering
  d = order_along t back (sign p) (sign q)

  is_right : T (right t back p q)
  is_right =
      all_at (right t back p) seven
      (all_at (λ p. all (right t back p) seven) seven
      (all_at (λ back. all (λ p. all (right t back p) seven) seven) bools
      (all_at (λ t. all (λ back. all (λ p. all (right t back p) seven) seven) bools) eight all_right mt)
      (in_bools back)) mp) mq

  abbrev A1 : Bool
  A1 = all (fitting (sign p) (sign q)) d.tests

  abbrev A2 : Bool
  A2 = any (same_order d.order) (admissible_orders 3 (sign p) (sign q))

  abbrev A3 : Bool
  A3 = admissible 3 (sign p) d.order

  abbrev A4 : Bool
  A4 = all (λ a. ltb a 3) d.order

  abbrev A5 : Bool
  A5 = met_once (sign p) (sign q) d.order

  rest4 : T (A4 && (A3 && (A2 && A1)))
  unfolding right
  rest4 = and_r A5 (A4 && (A3 && (A2 && A1))) is_right

  rest3 : T (A3 && (A2 && A1))
  rest3 = and_r A4 (A3 && (A2 && A1)) rest4

  -- no stretch of the order is minus on all three lines
  pub order-admissible : T (admissible 3 (sign p) d.order)
  order-admissible = and_l A3 (A2 && A1) rest3

  pub order_listed : Memᴰ d.order (admissible_orders 3 (sign p) (sign q))
  order_listed = any_member same_order same_order_lem d.order (admissible_orders 3 (sign p) (sign q)) (and_l A2 A1 (and_r A3 (A2 && A1) rest3))

  no_sign : (s : List Bool) → Memᴰ s seven → (a : ℕ) → 3 ≤ a → sign s a ≡ false
  no_sign s m a h = let k = eqb→eq (length s) 3 (all_at (λ p. eqb (length p) 3) seven (three_signs s) m) in get_or-eq_default s false (omega arith)

  -- each line that the edge crosses is met once, and no other
  pub order_meets : (a : ℕ) → count (eqb a) d.order ≡ once (crosses (sign p) (sign q) a)
  unfolding right met_once
  order_meets a = go a (ltb a 3) refl
    where
      go : (a : ℕ) (b : Bool) → ltb a 3 ≡ b → count (eqb a) d.order ≡ once (crosses (sign p) (sign q) a)
      go a false h =
          let k : 3 ≤ a = ltb-false a 3 h in
          beyond d.order (and_l A4 (A3 && (A2 && A1)) rest4) a k ∙ rw (no_sign p mp a k, no_sign q mq a k) refl
      go a true h =
          eqb→eq _ _ (all_at (λ a. eqb (count (eqb a) d.order) (once (crosses (sign p) (sign q) a))) three
          (and_l A5 (A4 && (A3 && (A2 && A1))) is_right) (in_three a (ltb-true a 3 h)))
