-- The order along an edge as the code finds it, from its lower vertex: of each corner of V, whether the corner's lower line is met before its
-- upper one, the three as a digit of the table's kind. That this is the order of the rules is proved (`is_order`). Definitions only.
use Rattle.std.specs.Prelude.{Bool, true, ◌&&◌, ◌||◌, List, [], ◌∷◌, map, ℕ, eqb, ltb, set}
use Rattle.std.proofs.Math.Bool.{false, not, cond}
use Rattle.std.specs.Bool.{beq}
use Rattle.floats.specs.Lists.{all, any, differ}
use Rattle.floats.specs.Finite.{finite}
use Rattle.floats.specs.Way.{f64}
use Rattle.lines.specs.Lines.{three, corner_on, lower_line, upper_line, sign}
use Rattle.lines.specs.declared.Params.{Params}
use Rattle.lines.specs.Parameters.{carried, signs_of}
use Rattle.table.specs.Table.{digit_of}
use Rattle.edges.specs.declared.Order.{Order}
use Rattle.edges.specs.declared.Test.{Test}
use Rattle.order.specs.PairTest.{pair_d, met_first}
use Rattle.order.specs.Order.{Ordering, order_along}

-- the pair test of the two lines of corner k: what it says, and whether its D is finite
unfoldable pub tested : Params → Params → List Bool → ℕ → Test
unfolding met_first
tested p q s k =
    let D = pair_d f64 (carried p) (carried q) (lower_line k) (upper_line k) in
    record { first = met_first f64 s D (lower_line k) (upper_line k); fine = finite D.value }

-- the rest is said of any three tests, one a corner
module _ (tests : ℕ → Test) where
  -- whether a is met before b, far: seen from the higher vertex
  unfoldable pub seen_first : Bool → ℕ → ℕ → Test
  seen_first far a b = let t = tests (corner_on a b) in record { first = differ far (differ (ltb b a) t.first); fine = t.fine }

-- lines met in the order a, b, c
unfoldable pub in_order : Bool → ℕ → ℕ → ℕ → ℕ
in_order far a b c =
    digit_of (set (set (set (false ∷ false ∷ false ∷ []) (corner_on a b) (differ far (ltb a b))) (corner_on b c) (differ far (ltb b c))) (corner_on a c) (differ far (ltb a c)))

abbrev pub ordered : ℕ → Bool → Order
ordered before fine = record { before = before; fine = fine }

module _ (tests : ℕ → Test) where
  unfoldable pub around_by : Bool → ℕ → ℕ → ℕ → Order
  unfolding seen_first in_order
  around_by far c a b =
      let t = seen_first tests far a c in
      let u = seen_first tests far b c in
      let v = seen_first tests far a b in
      cond t.first (ordered (in_order far a c b) t.fine)
      (cond u.first (ordered (in_order far b c a) (t.fine && u.fine))
      (cond v.first (ordered (in_order far c a b) (t.fine && (u.fine && v.fine))) (ordered (in_order far c b a) (t.fine && (u.fine && v.fine)))))

  -- far where the lower vertex is minus on two lines
  unfoldable pub three_by : List Bool → Order
  unfolding around_by
  three_by s =
      let far = not ((sign s 0 && sign s 1) || ((sign s 1 && sign s 2) || (sign s 0 && sign s 2))) in
      cond (beq (sign s 0) far) (around_by far 0 1 2) (cond (beq (sign s 1) far) (around_by far 1 0 2) (around_by far 2 0 1))

  -- the two lines of corner k, c being the third
  unfoldable pub two_by : List Bool → ℕ → ℕ → Test
  two_by s k c = cond (sign s c) (tests k) (record { first = not (sign s (lower_line k)); fine = true })

  -- from the signs s on, by the lines that the edge crosses, c being their digit: 6 is lines 0 and 1, 3 lines 1 and 2, 5 lines 0 and 2, 7 all three
  unfoldable pub order_by : List Bool → ℕ → Order
  unfolding three_by two_by
  order_by s c =
      let xy = two_by s 0 2 in
      let yw = two_by s 1 0 in
      let xw = two_by s 2 1 in
      cond (eqb c 6) (ordered (digit_of (xy.first ∷ false ∷ false ∷ [])) xy.fine)
      (cond (eqb c 3) (ordered (digit_of (false ∷ yw.first ∷ false ∷ [])) yw.fine)
      (cond (eqb c 5) (ordered (digit_of (false ∷ false ∷ xw.first ∷ [])) xw.fine)
      (cond (eqb c 7) (three_by s) (ordered 0 true))))

-- ---- the same, read off an order of the rules
-- a stands before b in the order, and both stand there
unfoldable pub stands_before : ℕ → ℕ → List ℕ → Bool
unfolding any
stands_before a b [] = false
stands_before a b (x ∷ o) = cond (eqb a x) (any (eqb b) o) (stands_before a b o)

unfoldable pub before_in : List ℕ → ℕ
unfolding stands_before
before_in o = digit_of (map (λ k. stands_before (lower_line k) (upper_line k) o) three)

-- what the rules decide of an edge from its lower vertex, with the parameters p, to its higher one, with q
unfoldable pub ordering_from : Params → Params → Ordering
unfolding signs_of tested order_along
ordering_from p q = order_along (map (λ k. (tested p q (signs_of p) k).first) three) false (sign (signs_of p)) (sign (signs_of q))

-- the D of one of its pair tests is finite
abbrev pub test_fine : Params → Params → ℕ × ℕ → Bool
test_fine p q t = finite (pair_d f64 (carried p) (carried q) t.0 t.1).value

-- the order, by corners, and whether all pair tests that it took are finite
unfoldable pub order_of : Params → Params → Order
unfolding before_in ordering_from all
order_of p q = ordered (before_in (ordering_from p q).order) (all (test_fine p q) (ordering_from p q).tests)
