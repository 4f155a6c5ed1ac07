-- Each place's corner is of its kind, and stands where it says: for a crossing, whichever end is plus on its line. Assumes nothing.
use mathlib.Core.Path.{◌≡◌, refl}
use mathlib.Core.Bool.{Bool, true, false, cond}
use mathlib.Core.List.{List}
use Prim.Native.Nat.{ℕ}
use lib.Ieee.{Float}
use Rattle.lines.specs.Lines.{start, finish}
use Rattle.triangles.specs.declared.Kind.TheVariants.{Crossing}
use Rattle.triangles.specs.Pair.{signs_by}
use Rattle.triangles.specs.Positions.{Placed, crossing_from, placed_at}
use Rattle.triangles.specs.Placing.{fraction_at, part_way, x_at, y_at, StandsAt, EachKind}

abbrev Reckoned : List Float → ℕ → ℕ → ℕ → ℕ → Placed → Type 0
Reckoned l e a P Q c = let t = fraction_at l P Q a in (c.kind ≡ Crossing e a t) × StandsAt c (part_way t (x_at l P) (x_at l Q)) (part_way t (y_at l P) (y_at l Q))

from_end : (l : List Float) (e a i j : ℕ) → Reckoned l e a i j (crossing_from l e a i j)
unfolding crossing_from
from_end l e a i j = (refl, record { x_is = refl; y_is = refl })

from_either : (l : List Float) (e a : ℕ) (b : Bool) →
    Reckoned l e a (cond b (start e) (finish e)) (cond b (finish e) (start e)) (cond b (crossing_from l e a (start e) (finish e)) (crossing_from l e a (finish e) (start e)))
from_either l e a true = from_end l e a (start e) (finish e)
from_either l e a false = from_end l e a (finish e) (start e)

pub each_kind : EachKind
unfolding placed_at
each_kind l = record {
  vertices = λ i. (refl, record { x_is = refl; y_is = refl });
  corners = λ k. (refl, record { x_is = refl; y_is = refl });
  crossings = λ e a. from_either l e a (signs_by l (start e) a);
}
