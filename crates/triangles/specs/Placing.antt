-- 02, No. 4, said once more apart from the definition, so that it can be held against it: what stands at a place is of that place's kind, and a crossing stands by the very t that it carries. Statements, and definitions that these and the statements above them use.
use Rattle.std.specs.Prelude.{◌≡◌, cond, List, ℕ, ◌+◌, ◌*◌, get_or, Float}
use Rattle.std.specs.Float.{nan, binary64}
use Rattle.std.specs.Float.Ieee.{add, sub, mul, div}
use Rattle.lines.specs.Lines.{start, finish}
use Rattle.lines.specs.Parameters.{parameter}
use Rattle.ring.specs.Places.{vertex, corner, crossing}
use Rattle.triangles.specs.declared.Kind.TheVariants.{Vertex, Reference, Crossing}
use Rattle.triangles.specs.Pair.{carried_by, signs_by}
use Rattle.triangles.specs.Positions.{Placed, placed_at}

-- the end of edge e that is plus on line a, and the other: P and Q
abbrev pub plus_end : List Float → ℕ → ℕ → ℕ
plus_end l e a = cond (signs_by l (start e) a) (start e) (finish e)

abbrev pub other_end : List Float → ℕ → ℕ → ℕ
other_end l e a = cond (signs_by l (start e) a) (finish e) (start e)

-- the parameter of vertex i on line a
abbrev pub parameter_at : List Float → ℕ → ℕ → Float
parameter_at l i a = (parameter (carried_by l i) a).value

-- a_P / (a_P − a_Q)
abbrev pub fraction_at : List Float → ℕ → ℕ → ℕ → Float
fraction_at l P Q a = div binary64 (parameter_at l P a) (sub binary64 (parameter_at l P a) (parameter_at l Q a))

-- P + t·(Q − P) of one component
abbrev pub part_way : Float → Float → Float → Float
part_way t p q = add binary64 p (mul binary64 t (sub binary64 q p))

-- where position k of the values stands: U0, U1, U2, V0, V1, V2 are 0 to 5
abbrev pub x_at : List Float → ℕ → Float
x_at l k = get_or l (2 * k) nan

abbrev pub y_at : List Float → ℕ → Float
y_at l k = get_or l (2 * k + 1) nan

pub record StandsAt (c : Placed) (x y : Float) : Type 0 where
  pub x_is : c.position.x.value ≡ x
  pub y_is : c.position.y.value ≡ y

pub record OfKind (l : List Float) : Type 0 where
  pub vertices : (i : ℕ) → ((placed_at l (vertex i)).kind ≡ Vertex i) × StandsAt (placed_at l (vertex i)) (x_at l i) (y_at l i)
  pub corners : (k : ℕ) → ((placed_at l (corner k)).kind ≡ Reference k) × StandsAt (placed_at l (corner k)) (x_at l (3 + k)) (y_at l (3 + k))
  -- t is reckoned from the end that is plus on the line, and so is the position, by that t
  pub crossings : (e a : ℕ) → (let P = plus_end l e a in let Q = other_end l e a in let t = fraction_at l P Q a in
      ((placed_at l (crossing e a)).kind ≡ Crossing e a t) × StandsAt (placed_at l (crossing e a)) (part_way t (x_at l P) (x_at l Q)) (part_way t (y_at l P) (y_at l Q)))

abbrev pub EachKind : Type 0
EachKind = (l : List Float) → OfKind l
