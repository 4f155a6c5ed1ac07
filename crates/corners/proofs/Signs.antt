-- Of a pair that is not refused: a vertex that is plus on a line has a parameter there that is at least zero, also where w counts as plus unseen, and one that is minus has a parameter below zero.
-- Rounding keeps that. Assumes nothing.
use mathlib.Core.Path.{◌≡◌, refl, sym, ap, ◌∙◌}
use mathlib.Core.Bool.{Bool, true, false, not, ◌&&◌, ◌||◌, cond, true≢false}
use mathlib.Core.List.{List, ◌++◌}
use Prim.Native.Nat.{ℕ, zero, suc, ◌<◌}
use native.Mathlib.Omega.{arith}
use lib.Dec.{T}
use lib.Ieee.{Float, binary64, sub, neg, lt, le, eq, fits}
use lib.Ieee.Fits.{and_l, and_r, sub-fits, neg-fits}
use lib.ListN.{get_or}
use Rattle.floats.specs.Lists.{all, any}
use Rattle.floats.specs.Finite.{finite, nought}
use Rattle.floats.specs.Numbers.{Point, minus_point, cross_from}
use Rattle.floats.specs.Way.{Way, ◌⊖◌, ◌⊗◌, negated, fine, f64}
use Rattle.floats.proofs.Lists.{so, os, all_append}
use Rattle.floats.proofs.Fractions.{minus_below, turned_above, less_two_below}
use Rattle.lines.specs.Parameters.{signs, last_unseen}
use Rattle.order.specs.PairTest.{signs_of_u}
use Rattle.triangles.specs.Pair.{vertex_of, corner_of, d_of_v, parameters_of, params_of, carried_by, vertex_signs, signs_by}
use Rattle.triangles.specs.Placing.{parameter_at}
use Rattle.triangles.specs.Refusals.{way_to_d, d_zero, way_to_parameter, parameters_way, way_of}
use Rattle.triangles.specs.Rows.{NoRow}
use Rattle.triangles.specs.Decision.{enough}
use Rattle.triangles.proofs.FiniteAnswer.{last_finite, none_missing}

-- ---- a difference, turned or not
turned_fits : (b : Bool) (u v : Way) → T (fits binary64 (cond b (negated (u ⊖ v)) (u ⊖ v)).value)
turned_fits true u v = neg-fits binary64 (sub binary64 u.value v.value) (sub-fits binary64 u.value v.value)
turned_fits false u v = sub-fits binary64 u.value v.value

turned_finite : (b : Bool) (u v : Way) → T (fine (cond b (negated (u ⊖ v)) (u ⊖ v))) → T (finite (cond b (negated (u ⊖ v)) (u ⊖ v)).value)
turned_finite true u v t = last_finite (neg (u ⊖ v).value) (u ⊖ v).way t
turned_finite false u v t = last_finite (u ⊖ v).value (u.way ++ v.way) t

minus_finite : (u v : Way) → T (fine (u ⊖ v)) → T (finite (u ⊖ v).value)
minus_finite u v t = last_finite (u ⊖ v).value (u.way ++ v.way) t

-- ---- a cross is one
module _ (p q r : Point Way) where
  abbrev first : Way
  first = (minus_point f64 q p).x ⊗ (minus_point f64 r p).y

  abbrev second : Way
  second = (minus_point f64 q p).y ⊗ (minus_point f64 r p).x

  abbrev turned : Bool → Way
  turned b = cond b (negated (cross_from f64 p q r)) (cross_from f64 p q r)

  cross_fits : (b : Bool) → T (fits binary64 (turned b).value)
  cross_fits b = turned_fits b first second

  cross_turned : (b : Bool) → T (fine (turned b)) → T (finite (turned b).value)
  cross_turned b = turned_finite b first second

  cross_finite : T (fine (cross_from f64 p q r)) → T (finite (cross_from f64 p q r).value)
  cross_finite = minus_finite first second

turned_value : (b : Bool) (v : Way) → (cond b (negated v) v).value ≡ cond b (neg v.value) v.value
turned_value true v = refl
turned_value false v = refl

none : (b : Bool) → (b ≡ true → ⊥) → b ≡ false
none true h = absurd (h refl)
none false h = refl

-- ---- the format holds every parameter
module _ (l : List Float) (i : ℕ) where
  abbrev below : Bool
  below = f64.is_below_zero (d_of_v l)

  -- d, turned where it is below zero
  abbrev d : Way
  d = cond below (negated (d_of_v l)) (d_of_v l)

  abbrev x : Way
  x = (parameters_of l i).x

  abbrev y : Way
  y = (parameters_of l i).y

  abbrev w : Way
  w = (parameters_of l i).w

  x_fits : T (fits binary64 (params_of l i).x)
  unfolding params_of parameters_of
  x_fits = cross_fits (corner_of l 0) (vertex_of l i) (corner_of l 2) below

  y-fits : T (fits binary64 (params_of l i).y)
  unfolding params_of parameters_of
  y-fits = cross_fits (corner_of l 0) (corner_of l 1) (vertex_of l i) below

  w_fits : T (fits binary64 (params_of l i).w)
  unfolding params_of parameters_of
  w_fits = sub-fits binary64 (sub binary64 d.value x.value) y.value

  pub parameter_fits : (a : ℕ) → a < 3 → T (fits binary64 (parameter_at l i a))
  parameter_fits zero h = x_fits
  parameter_fits (suc zero) h = y-fits
  parameter_fits (suc (suc zero)) h = w_fits
  parameter_fits (suc (suc (suc a))) h = absurd (omega arith)

-- ---- of a pair that is not refused
module _ (l : List Float) (passed : NoRow l enough) where
  abbrev way_of_vertex : ℕ → List Float
  way_of_vertex i = parameters_way (parameters_of l i)

  abbrev is_fine : ℕ → Bool
  is_fine i = all finite (way_of_vertex i)

  first_way : T (is_fine 0 && all finite (way_of_vertex 1 ++ way_of_vertex 2))
  unfolding way_of
  first_way = os (sym (all_append finite (way_of_vertex 0) (way_of_vertex 1 ++ way_of_vertex 2)) ∙ so (none_missing (way_of way_to_parameter l) (passed way_to_parameter)))

  other_ways : T (is_fine 1 && is_fine 2)
  other_ways = os (sym (all_append finite (way_of_vertex 1) (way_of_vertex 2)) ∙ so (and_r (is_fine 0) (all finite (way_of_vertex 1 ++ way_of_vertex 2)) first_way))

  way_of_lem : (i : ℕ) → i < 3 → T (is_fine i)
  way_of_lem zero h = and_l (is_fine 0) (all finite (way_of_vertex 1 ++ way_of_vertex 2)) first_way
  way_of_lem (suc zero) h = and_l (is_fine 1) (is_fine 2) other_ways
  way_of_lem (suc (suc zero)) h = and_r (is_fine 1) (is_fine 2) other_ways
  way_of_lem (suc (suc (suc i))) h = absurd (omega arith)

  module _ (i : ℕ) (hi : i < 3) where
    first_split : T (fine (x l i) && all finite ((y l i).way ++ (w l i).way))
    first_split = os (sym (all_append finite (x l i).way ((y l i).way ++ (w l i).way)) ∙ so (way_of_lem i hi))

    second_split : T (fine (y l i) && fine (w l i))
    second_split = os (sym (all_append finite (y l i).way (w l i).way) ∙ so (and_r (fine (x l i)) (all finite ((y l i).way ++ (w l i).way)) first_split))

    x_finite : finite (params_of l i).x ≡ true
    unfolding params_of parameters_of
    x_finite = so (cross_turned (corner_of l 0) (vertex_of l i) (corner_of l 2) (below l i) (and_l (fine (x l i)) (all finite ((y l i).way ++ (w l i).way)) first_split))

    y_finite : finite (params_of l i).y ≡ true
    unfolding params_of parameters_of
    y_finite = so (cross_turned (corner_of l 0) (corner_of l 1) (vertex_of l i) (below l i) (and_l (fine (y l i)) (fine (w l i)) second_split))

    w-finite : finite (params_of l i).w ≡ true
    unfolding params_of parameters_of
    w-finite = so (minus_finite (d l i ⊖ x l i) (y l i) (and_r (fine (y l i)) (fine (w l i)) second_split))

    -- d so turned is above zero
    d_finite : finite (d_of_v l).value ≡ true
    unfolding way_of d_of_v
    d_finite = so (cross_finite (corner_of l 0) (corner_of l 1) (corner_of l 2) (none_missing (way_of way_to_d l) (passed way_to_d)))

    d_above : lt nought (d l i).value ≡ true
    d_above = ap (lt nought) (turned_value (below l i) (d_of_v l)) ∙ turned_above (d_of_v l).value d_finite (none (eq (d_of_v l).value nought) (passed d_zero))

    -- where x and y are below zero, w is at least zero
    w_unseen : lt (params_of l i).x nought ≡ true → lt (params_of l i).y nought ≡ true → le nought (params_of l i).w ≡ true
    unfolding params_of parameters_of
    w_unseen hx hy = less_two_below (d l i).value (x l i).value (y l i).value d_above hx hy

    -- ---- the signs
    abbrev plus : Float → Bool
    plus v = le nought v

    last_plus : (a b c : Bool) → (a ≡ false → b ≡ false → c ≡ true) → (not (a || (b || false)) || c) ≡ true → c ≡ true
    last_plus true b c f h = h
    last_plus false true c f h = h
    last_plus false false c f h = f refl refl

    last_minus : (a b c : Bool) → (not (a || (b || false)) || c) ≡ false → c ≡ false
    last_minus true b c h = h
    last_minus false true c h = h
    last_minus false false c h = absurd (true≢false h)

    sign_is : (a : ℕ) → signs_by l i a ≡ get_or (signs f64 (carried_by l i)) a false
    unfolding vertex_signs signs_of_u
    sign_is a = go i hi
      where
        go : (i : ℕ) → i < 3 → signs_by l i a ≡ get_or (signs f64 (carried_by l i)) a false
        go zero h = refl
        go (suc zero) h = refl
        go (suc (suc zero)) h = refl
        go (suc (suc (suc i))) h = absurd (omega arith)

    plus_by : (a : ℕ) → a < 3 → get_or (signs f64 (carried_by l i)) a false ≡ true → le nought (parameter_at l i a) ≡ true
    unfolding signs last_unseen any
    plus_by zero h s = s
    plus_by (suc zero) h s = s
    plus_by (suc (suc zero)) h s =
        last_plus (plus (params_of l i).x) (plus (params_of l i).y) (plus (params_of l i).w) (λ p q. w_unseen (minus_below (params_of l i).x x_finite p) (minus_below (params_of l i).y y_finite q)) s
    plus_by (suc (suc (suc a))) h s = absurd (omega arith)

    minus_by : (a : ℕ) → a < 3 → get_or (signs f64 (carried_by l i)) a false ≡ false → lt (parameter_at l i a) nought ≡ true
    unfolding signs last_unseen any
    minus_by zero h s = minus_below (params_of l i).x x_finite s
    minus_by (suc zero) h s = minus_below (params_of l i).y y_finite s
    minus_by (suc (suc zero)) h s = minus_below (params_of l i).w w-finite (last_minus (plus (params_of l i).x) (plus (params_of l i).y) (plus (params_of l i).w) s)
    minus_by (suc (suc (suc a))) h s = absurd (omega arith)

    pub plus_at_least : (a : ℕ) → a < 3 → signs_by l i a ≡ true → le nought (parameter_at l i a) ≡ true
    plus_at_least a h s = plus_by a h (sym (sign_is a) ∙ s)

    pub minus_under : (a : ℕ) → a < 3 → signs_by l i a ≡ false → lt (parameter_at l i a) nought ≡ true
    minus_under a h s = minus_by a h (sym (sign_is a) ∙ s)
