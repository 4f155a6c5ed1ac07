-- Of a pair: d, e, the parameters, the pair tests and the area are finite exactly if every value on their way is. (Of a position this does not
-- hold: its t is a quotient.) Assumes nothing.
use mathlib.Core.Path.{refl}
use mathlib.Core.Bool.{Bool, true, false, cond}
use mathlib.Core.List.{List, [], ◌∷◌}
use Prim.Native.Nat.{ℕ, zero, suc, ◌+◌, ◌-◌, ◌*◌}
use lib.ListN.{length, get_or}
use lib.Dec.{eqb}
use lib.Ieee.{Float, nan, of_bits}
use Rattle.floats.specs.Finite.{nought}
use Rattle.floats.specs.Numbers.{Point, cross_from}
use Rattle.floats.specs.Way.{Way, given, ◌⊕◌, negated, f64, given_point}
use Rattle.floats.specs.Lists.{all}
use Rattle.floats.proofs.Told.{Told, Kept, KeptPoint, given-Kept, given_point_lem, Told-Kept, told_add, Told-mul, Kept-flip, Told-cross, Told-cross_from}
use Rattle.lines.specs.Lines.{lower_end, higher_end}
use Rattle.lines.specs.Parameters.{parameter}
use Rattle.lines.proofs.Told.{ToldParameters, Told-parameters}
use Rattle.triangles.specs.Pair.{vertex_of, corner_of, d_of_v, e_of_u, parameters_of, params_of, carried_by, pair_d_of}
use Rattle.triangles.specs.Positions.{corner_at, sum_to, half, area_of}

module _ (l : List Float) where
  kept_vertex : (i : ℕ) → KeptPoint (vertex_of l i)
  kept_vertex i = given_point_lem (get_or l (2 * i) nan) (get_or l (2 * i + 1) nan)

  pub Told-d : Told (d_of_v l)
  unfolding d_of_v
  Told-d = Told-cross_from (corner_of l 0) (corner_of l 1) (corner_of l 2) (kept_vertex 3) (kept_vertex 4) (kept_vertex 5)

  pub Told-e : Told (e_of_u l)
  unfolding e_of_u
  Told-e = Told-cross_from (vertex_of l 0) (vertex_of l 1) (vertex_of l 2) (kept_vertex 0) (kept_vertex 1) (kept_vertex 2)

  pub told_parameter : (i : ℕ) → ToldParameters (parameters_of l i)
  unfolding parameters_of
  told_parameter i = Told-parameters (d_of_v l) (corner_of l 0) (corner_of l 1) (corner_of l 2) (vertex_of l i) Told-d (kept_vertex 3) (kept_vertex 4) (kept_vertex 5) (kept_vertex i)

  -- a parameter that is carried has no way of its own
  Kept-carried : (i a : ℕ) → Kept (parameter (carried_by l i) a)
  Kept-carried i a = go (eqb a 0) (eqb a 1)
    where
      go : (x y : Bool) → Kept (cond x (carried_by l i).x (cond y (carried_by l i).y (carried_by l i).w))
      go true y = given-Kept (params_of l i).x
      go false true = given-Kept (params_of l i).y
      go false false = given-Kept (params_of l i).w

  pub Told-pair_test : (t : ℕ × (ℕ × ℕ)) → Told (pair_d_of l t)
  unfolding pair_d_of
  Told-pair_test t =
      let i = lower_end t.0 in
      let j = higher_end t.0 in
      let a = t.1.0 in
      let b = t.1.1 in
      Told-cross (parameter (carried_by l i) a) (parameter (carried_by l j) a) (parameter (carried_by l i) b) (parameter (carried_by l j) b)
      (Kept-carried i a) (Kept-carried j a) (Kept-carried i b) (Kept-carried j b)

kept_corner : (cs : List (Point Way)) (k : ℕ) → KeptPoint (corner_at cs k)
kept_corner cs k = let c = get_or cs k (given_point nan nan) in given_point_lem c.x.value c.y.value

-- the sum, from a given 0.0 on
Kept-sum : (cs : List (Point Way)) (m : ℕ) → Kept (sum_to cs m)
unfolding sum_to
Kept-sum cs zero = given-Kept nought
Kept-sum cs (suc m) =
    let c = cross_from f64 (corner_at cs 0) (corner_at cs (m + 1)) (corner_at cs (m + 2)) in
    Told-Kept (sum_to cs m ⊕ c)
    (told_add (sum_to cs m) c (Kept-sum cs m)
    (Told-Kept c (Told-cross_from (corner_at cs 0) (corner_at cs (m + 1)) (corner_at cs (m + 2)) (kept_corner cs 0) (kept_corner cs (m + 1)) (kept_corner cs (m + 2)))))

pub Told-area : (cs : List (Point Way)) → Told (area_of cs)
unfolding area_of all of_bits
Told-area [] = refl
Told-area (c ∷ cs) =
    let sum = sum_to (c ∷ cs) (length (c ∷ cs) - 2) in
    Told-mul (given half) (cond (f64.is_below_zero sum) (negated sum) sum) (given-Kept half) (Kept-flip (f64.is_below_zero sum) sum (Kept-sum (c ∷ cs) (length (c ∷ cs) - 2)))
