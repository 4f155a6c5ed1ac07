-- The orders, the pair tests and the ring that the code finds are those of the pair. Assumes nothing.
use mathlib.Core.Path.{◌≡◌, refl, sym, ap, ap₂, ◌∙◌}
use mathlib.Core.Bool.{Bool, true, false, ◌&&◌, and_assoc}
use mathlib.Core.List.Memᴰ.{head as here}
use mathlib.Core.List.Memᴰ.{tail as there}
use mathlib.Core.List.{List, [], ◌∷◌, ◌++◌, map, reverse, Memᴰ}
use Prim.Native.Nat.{ℕ}
use lib.Ieee.{Float}
use Rattle.floats.specs.Lists.{all}
use Rattle.floats.specs.Finite.{finite}
use Rattle.floats.proofs.Lists.{all_append}
use Rattle.lines.specs.Lines.{three, sign, lower_end, higher_end}
use Rattle.lines.specs.Parameters.{signs, signs_of}
use Rattle.order.specs.PairTest.{signs_of_u, outcome_on, outcomes_on}
use Rattle.order.specs.Order.{Ordering, order_along, ordering_on, orders_of}
use Rattle.table.specs.Table.{crossed_from, entry_for, crossed_in}
use Rattle.edges.specs.declared.Order.{Order}
use Rattle.edges.specs.Code.{tested, order_by, before_in, ordering_from, test_fine, order_of}
use Rattle.order.proofs.Every.{seven, eight, in_seven, in_eight}
use Rattle.coded.proofs.Orders.{is_order, crossed_01, crossed_12, crossed_02, back-order, back-tests}
use Rattle.walk.specs.Code.{befores, flags_and_ring as code_ring, beyond_a_line}
use Rattle.coded.proofs.Rings.{IsRing, is_ring}
use Rattle.walk.proofs.Beyond.{Nothing, nothing_beyond, untested_beyond}
use Rattle.triangles.specs.Pair.{params_of, vertex_signs, outcomes_of, edge_orders, tests_on, tests_of, pair_d_of}
use Rattle.triangles.specs.Refusals.{way_to_pair_test, tests_way, way_of}
use Rattle.triangles.proofs.Told.{Told-pair_test}

module _ (l : List Float) where
  -- ---- the signs, and what the pair tests can say
  abbrev s : ℕ → List Bool
  s i = signs_of (params_of l i)

  pub signs_are : vertex_signs l ≡ s 0 ∷ s 1 ∷ s 2 ∷ []
  unfolding vertex_signs signs_of_u signs_of
  signs_are = refl

  seven_signs : (i : ℕ) → Memᴰ (s i) seven
  unfolding signs_of signs
  seven_signs i = in_seven _ _ _

  eight_outcomes : (e : ℕ) → Memᴰ (outcomes_of l e) eight
  unfolding outcomes_of outcomes_on
  eight_outcomes e = in_eight _ _ _

  abbrev decided_at : ℕ → Ordering
  decided_at e = ordering_on (vertex_signs l) (outcomes_of l) e

  abbrev from : ℕ → ℕ → Ordering
  from i j = ordering_from (params_of l i) (params_of l j)

  -- ---- each edge, seen from its lower vertex
  edge0 : decided_at 0 ≡ from 0 1
  unfolding ordering_on vertex_signs signs_of_u signs_of outcomes_of outcomes_on outcome_on ordering_from tested
  edge0 = refl

  edge1 : decided_at 1 ≡ from 1 2
  unfolding ordering_on vertex_signs signs_of_u signs_of outcomes_of outcomes_on outcome_on ordering_from tested
  edge1 = refl

  abbrev back : Ordering
  back = order_along (outcomes_of l 2) true (sign (s 2)) (sign (s 0))

  abbrev forth : Ordering
  forth = order_along (outcomes_of l 2) false (sign (s 0)) (sign (s 2))

  edge2_back : decided_at 2 ≡ back
  unfolding ordering_on vertex_signs signs_of_u signs_of
  edge2_back = refl

  edge2_forth : forth ≡ from 0 2
  unfolding signs_of outcomes_of outcomes_on outcome_on ordering_from tested
  edge2_forth = refl

  edge2_order : reverse (decided_at 2).order ≡ (from 0 2).order
  edge2_order = ap (λ d. reverse d.order) edge2_back ∙ (back-order (outcomes_of l 2) (s 0) (s 2) (eight_outcomes 2) (seven_signs 0) (seven_signs 2) ∙ ap (λ d. d.order) edge2_forth)

  edge2_tests : (decided_at 2).tests ≡ (from 0 2).tests
  edge2_tests = ap (λ d. d.tests) edge2_back ∙ (back-tests (outcomes_of l 2) (s 0) (s 2) (eight_outcomes 2) (seven_signs 0) (seven_signs 2) ∙ ap (λ d. d.tests) edge2_forth)

  -- the code's orders
  abbrev entry : ℕ
  entry = entry_for (s 0 ∷ s 1 ∷ s 2 ∷ [])

  abbrev coded : ℕ → ℕ → ℕ → Order
  coded e i j = order_by (tested (params_of l i) (params_of l j) (s i)) (s i) (crossed_in entry e)

  coded_is : (e i j : ℕ) → crossed_in entry e ≡ crossed_from (s i) (s j) → coded e i j ≡ order_of (params_of l i) (params_of l j)
  coded_is e i j h = ap (order_by (tested (params_of l i) (params_of l j) (s i)) (s i)) h ∙ is_order (params_of l i) (params_of l j)

  coded0 : coded 0 0 1 ≡ order_of (params_of l 0) (params_of l 1)
  coded0 = coded_is 0 0 1 (crossed_01 (s 0) (s 1) (s 2) (seven_signs 0) (seven_signs 1) (seven_signs 2))

  coded1 : coded 1 1 2 ≡ order_of (params_of l 1) (params_of l 2)
  coded1 = coded_is 1 1 2 (crossed_12 (s 0) (s 1) (s 2) (seven_signs 0) (seven_signs 1) (seven_signs 2))

  coded2 : coded 2 0 2 ≡ order_of (params_of l 0) (params_of l 2)
  coded2 = coded_is 2 0 2 (crossed_02 (s 0) (s 1) (s 2) (seven_signs 0) (seven_signs 1) (seven_signs 2))

  pub befores_are : befores (edge_orders l) ≡ (coded 0 0 1).before ∷ (coded 1 1 2).before ∷ (coded 2 0 2).before ∷ []
  unfolding befores edge_orders orders_of order_of
  befores_are =
      rw (coded0, coded1, coded2, sym edge2_order)
      (ap₂ (λ x y. x ∷ y ∷ before_in (reverse (decided_at 2).order) ∷ []) (ap (λ d. before_in d.order) edge0) (ap (λ d. before_in d.order) edge1))

  -- ---- the row of the pair tests
  tests_way_lem : (e : ℕ) (ts : List (ℕ × ℕ)) → all finite (tests_way l (map (λ t. (e, t)) ts)) ≡ all (test_fine (params_of l (lower_end e)) (params_of l (higher_end e))) ts
  unfolding tests_way all pair_d_of
  tests_way_lem e [] = refl
  tests_way_lem e (t ∷ ts) =
      all_append finite (pair_d_of l (e, t)).way (tests_way l (map (λ t. (e, t)) ts)) ∙ ap₂ ◌&&◌ (Told-pair_test l (e, t)) (tests_way_lem e ts)

  tests_append : (xs ys : List (ℕ × (ℕ × ℕ))) → all finite (tests_way l (xs ++ ys)) ≡ (all finite (tests_way l xs) && all finite (tests_way l ys))
  unfolding tests_way all
  tests_append [] ys = refl
  tests_append (x ∷ xs) ys =
      all_append finite (pair_d_of l x).way (tests_way l (xs ++ ys))
      ∙ (ap (λ b. all finite (pair_d_of l x).way && b) (tests_append xs ys)
      ∙ (sym (and_assoc (all finite (pair_d_of l x).way) (all finite (tests_way l xs)) (all finite (tests_way l ys)))
      ∙ ap (λ b. b && all finite (tests_way l ys)) (sym (all_append finite (pair_d_of l x).way (tests_way l xs)))))

  pub tests_fine : ((coded 0 0 1).fine && ((coded 1 1 2).fine && (coded 2 0 2).fine)) ≡ all finite (way_of way_to_pair_test l)
  unfolding way_of tests_of tests_on order_of
  tests_fine =
      let on : ℕ → List (ℕ × (ℕ × ℕ)) = λ e. map (λ t. (e, t)) (decided_at e).tests in
      sym (tests_append (on 0) (on 1 ++ on 2)
      ∙ ap₂ ◌&&◌ (tests_way_lem 0 (decided_at 0).tests ∙ (ap (λ d. all (test_fine (params_of l 0) (params_of l 1)) d.tests) edge0 ∙ sym (ap (λ o. o.fine) coded0)))
      (tests_append (on 1) (on 2)
      ∙ ap₂ ◌&&◌ (tests_way_lem 1 (decided_at 1).tests ∙ (ap (λ d. all (test_fine (params_of l 1) (params_of l 2)) d.tests) edge1 ∙ sym (ap (λ o. o.fine) coded1)))
      (tests_way_lem 2 (decided_at 2).tests ∙ (ap (all (test_fine (params_of l 0) (params_of l 2))) edge2_tests ∙ sym (ap (λ o. o.fine) coded2)))))

  -- ---- the ring
  pub ring_is : IsRing (vertex_signs l) (edge_orders l) (code_ring (vertex_signs l) (entry_for (vertex_signs l)) (befores (edge_orders l)))
  unfolding vertex_signs signs_of_u signs_of edge_orders
  ring_is = is_ring (s 0) (s 1) (s 2) (seven_signs 0) (seven_signs 1) (seven_signs 2) (outcomes_of l) eight_outcomes

  -- ---- beyond a line
  pub beyond_nothing : beyond_a_line (vertex_signs l) ≡ true → Nothing (vertex_signs l) (edge_orders l)
  unfolding vertex_signs signs_of_u signs_of edge_orders
  beyond_nothing h = nothing_beyond (s 0) (s 1) (s 2) (seven_signs 0) (seven_signs 1) (seven_signs 2) (outcomes_of l) eight_outcomes h

  untested : beyond_a_line (vertex_signs l) ≡ true → (e : ℕ) → Memᴰ e three → (decided_at e).tests ≡ []
  unfolding vertex_signs signs_of_u signs_of
  untested h e m = untested_beyond (s 0) (s 1) (s 2) (seven_signs 0) (seven_signs 1) (seven_signs 2) (outcomes_of l) eight_outcomes h e m

  pub beyond_untested : beyond_a_line (vertex_signs l) ≡ true → tests_of l ≡ []
  unfolding tests_of tests_on
  beyond_untested h = rw (untested h 0 (here refl), untested h 1 (there (here refl)), untested h 2 (there (there (here refl)))) refl
