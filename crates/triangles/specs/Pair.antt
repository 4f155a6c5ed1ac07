-- 01, "Numbers and lines" to "Flags, ring and area", of one pair of triangles: U0x, U0y, .. V2y. Every list has these, of whatever length: a value
-- that is missing reads as NaN, and row 1 of the refusals comes before anything that looks at it. Definitions only.
use Rattle.std.specs.Prelude.{Bool, ℕ, ◌+◌, ◌*◌, get_or, Float}
use mathlib.Core.List.{List, ◌++◌, map}
use Rattle.std.specs.Float.{nan}
use Rattle.floats.specs.Numbers.{Point}
use Rattle.floats.specs.Way.{Way, f64, given_point}
use Rattle.lines.specs.Lines.{signs_at}
use Rattle.lines.specs.declared.Params.{Params}
use Rattle.lines.specs.Parameters.{Parameters, d_of, e_of, parameters_by, carried, values_of}
use Rattle.order.specs.PairTest.{signs_of_u, pair_d_on, outcomes_on}
use Rattle.order.specs.Order.{ordering_on, orders_of, order_at}
use Rattle.ring.specs.Places.{Place}
use Rattle.ring.specs.Ring.{ring}

module _ (l : List Float) where
  -- vertex i of U, and corner k of V
  abbrev pub vertex_of : ℕ → Point Way
  vertex_of i = given_point (get_or l (2 * i) nan) (get_or l (2 * i + 1) nan)

  abbrev pub corner_of : ℕ → Point Way
  corner_of k = vertex_of (3 + k)

  -- d and e, with every value on their way
  unfoldable pub d_of_v : Way
  d_of_v = d_of f64 (corner_of 0) (corner_of 1) (corner_of 2)

  unfoldable pub e_of_u : Way
  e_of_u = e_of f64 (vertex_of 0) (vertex_of 1) (vertex_of 2)

  -- the parameters of vertex i by this d, with every value on their way
  unfoldable pub parameters_of : ℕ → Parameters Way
  unfolding d_of_v
  parameters_of i = parameters_by f64 d_of_v (corner_of 0) (corner_of 1) (corner_of 2) (vertex_of i)

  -- the three numbers that vertex i carries
  unfoldable pub params_of : ℕ → Params
  unfolding parameters_of
  params_of i = values_of (parameters_of i)

  -- as the signs, pair tests and positions take them: their way was judged by a row of its own and is not kept
  abbrev pub carried_by : ℕ → Parameters Way
  carried_by i = carried (params_of i)

  -- the signs of U's vertices
  unfoldable pub vertex_signs : List (List Bool)
  unfolding params_of signs_of_u
  vertex_signs = signs_of_u f64 carried_by

  -- the outcomes of edge e's pair tests, and the orders that they give
  unfoldable pub outcomes_of : ℕ → List Bool
  unfolding params_of outcomes_on
  outcomes_of e = outcomes_on f64 carried_by e

  unfoldable pub edge_orders : List (List ℕ)
  unfolding vertex_signs outcomes_of orders_of
  edge_orders = orders_of vertex_signs outcomes_of

  -- the signs of vertex i, and the order along edge e, as the ring takes them
  abbrev pub signs_by : ℕ → ℕ → Bool
  signs_by = signs_at vertex_signs

  abbrev pub orders_by : ℕ → List ℕ
  orders_by = order_at edge_orders

  -- the ring's places
  unfoldable pub ring_of : List Place
  unfolding vertex_signs edge_orders ring
  ring_of = ring signs_by orders_by

  -- the pair tests computed on edge e, each with its edge
  unfoldable pub tests_on : ℕ → List (ℕ × (ℕ × ℕ))
  unfolding vertex_signs outcomes_of ordering_on
  tests_on e = map (λ t. (e, t)) (ordering_on vertex_signs outcomes_of e).tests

  -- all pair tests computed: edges 0, 1, 2 in turn
  unfoldable pub tests_of : List (ℕ × (ℕ × ℕ))
  unfolding tests_on
  tests_of = tests_on 0 ++ (tests_on 1 ++ tests_on 2)

  -- the D of such a pair test
  unfoldable pub pair_d_of : ℕ × (ℕ × ℕ) → Way
  unfolding params_of
  pair_d_of t = pair_d_on f64 carried_by t.0 t.1.0 t.1.1
