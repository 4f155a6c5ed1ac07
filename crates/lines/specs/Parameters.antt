-- 01, "Numbers and lines": a vertex's parameters, in any numbers, and their signs. Definitions only.
use Rattle.std.specs.Prelude.{ℕ, Bool, not, ◌||◌, cond, List, [], ◌∷◌, ◌++◌, eqb, Float}
use Rattle.std.specs.Float.{binary64}
use Rattle.std.specs.Float.Ieee.{sub, neg, lt}
use Rattle.floats.specs.Lists.{any}
use Rattle.floats.specs.Finite.{nought}
use Rattle.floats.specs.Numbers.{Numbers, Point, cross, cross_from}
use Rattle.floats.specs.Way.{Way, given, f64}
use Rattle.floats.specs.declared.Position.{Position}
use Rattle.lines.specs.declared.Params.{Params}

-- each vertex carries its three parameters together
pub record Parameters (N : Type 0) : Type 0 where
  pub x : N
  pub y : N
  pub w : N

-- the parameter of line a: 0 is x, 1 is y, 2 is w
abbrev pub parameter : {N : Type 0} → Parameters N → ℕ → N
parameter p a = cond (eqb a 0) p.x (cond (eqb a 1) p.y p.w)

-- the signs of a vertex, from the signs of its parameters on all lines but the last, and on the last. Where all the others are minus,
-- the last one is not looked at and is plus
unfoldable pub last_unseen : List Bool → Bool → List Bool
unfolding any
last_unseen others last = others ++ ((not (any (λ s. s) others) || last) ∷ [])

module _ (K : Numbers) where
  -- d of V's corners, and e of U's vertices: the cross of the differences of the second and the third from the first
  abbrev pub d_of : Point K.N → Point K.N → Point K.N → K.N
  d_of v0 v1 v2 = cross_from K v0 v1 v2

  abbrev pub e_of : Point K.N → Point K.N → Point K.N → K.N
  e_of u0 u1 u2 = cross_from K u0 u1 u2

  -- with d of V's corners: x puts u in the place of V1 in d, y in the place of V2. A d below zero has its own sign and theirs turned; then w is what x and y leave of d
  abbrev pub parameters_by : K.N → Point K.N → Point K.N → Point K.N → Point K.N → Parameters K.N
  parameters_by d v0 v1 v2 u =
      let turned : K.N → K.N = λ v. cond (K.is_below_zero d) (K.negate v) v in
      let x = turned (cross_from K v0 u v2) in
      let y = turned (cross_from K v0 v1 u) in
      record { x = x; y = y; w = K.minus (K.minus (turned d) x) y }

  -- a parameter that is ≥ 0 is plus, any other minus; w is the last
  unfoldable pub signs : Parameters K.N → List Bool
  unfolding last_unseen
  signs p = last_unseen (K.is_at_least_zero p.x ∷ K.is_at_least_zero p.y ∷ []) (K.is_at_least_zero p.w)

-- ---- as the code carries them: three f64 a vertex
abbrev pub carried : Params → Parameters Way
carried p = record { x = given p.x; y = given p.y; w = given p.w }

abbrev pub values_of : Parameters Way → Params
values_of p = record { x = p.x.value; y = p.y.value; w = p.w.value }

-- the side from one position to another
abbrev pub side_of : Position → Position → Position
side_of a b = record { x = sub binary64 b.x a.x; y = sub binary64 b.y a.y }

-- the cross of two sides
abbrev pub cross_of_sides : Position → Position → Float
cross_of_sides a b = (cross f64 (given a.x) (given a.y) (given b.x) (given b.y)).value

-- a vertex's parameters from d and V's sides, a from V0 to V1 and b from V0 to V2, computed before: in d's cross the side to u stands in the place of a, and then of b
abbrev pub params_by : Float → Position → Position → Position → Position → Params
params_by d v0 a b u =
    let turned : Float → Float = λ v. cond (lt d nought) (neg v) v in
    let c = side_of v0 u in
    let x = turned (cross_of_sides c b) in
    let y = turned (cross_of_sides a c) in
    record { x = x; y = y; w = sub binary64 (sub binary64 (turned d) x) y }

unfoldable pub signs_of : Params → List Bool
unfolding signs
signs_of p = signs f64 (carried p)
