-- A closed walk of three edges, seen from two lines alone: what the one says of the corner is what the other says. An edge's order has at most
-- two entries then, so one computed test over all signs and orders decides. Assumes nothing.
use mathlib.Core.Path.{◌≡◌, refl}
use mathlib.Core.Bool.{Bool, true, false, not, beq}
use mathlib.Core.List.Memᴰ.{head as here}
use mathlib.Core.List.Memᴰ.{tail as there}
use mathlib.Core.List.{List, [], ◌∷◌, ◌++◌, map, Memᴰ}
use Prim.Native.Nat.{◌≤◌}
use native.Mathlib.Omega.{arith}
use lib.Dec.{T}
use Rattle.floats.specs.Lists.{all, count, once, differ}
use Rattle.floats.proofs.Lists.{all_at, same_bool, each, each_at}

-- ---- the walk seen from two lines alone: true where the first is met, false where the second is
-- the signs on the second at the places where the first is met
unfoldable pub seen : Bool → List Bool → List Bool
seen y [] = []
seen y (true ∷ r) = y ∷ seen y r
seen y (false ∷ r) = seen (not y) r

-- two signs that differ
unfoldable pub unlike : List Bool → Bool
unlike [] = false
unlike (c ∷ []) = false
unlike (c ∷ d ∷ []) = differ c d
unlike (c ∷ d ∷ e ∷ r) = false

-- the two lines' orders on an edge, by whether it crosses the first and the second
unfoldable pub shorts : Bool → Bool → List (List Bool)
shorts true true = (true ∷ false ∷ []) ∷ (false ∷ true ∷ []) ∷ []
shorts true false = (true ∷ []) ∷ []
shorts false true = (false ∷ []) ∷ []
shorts false false = [] ∷ []

-- what the first line says, from the second's signs at the three vertices
unfoldable pub says : Bool → Bool → Bool → List Bool → List Bool → List Bool → Bool
says i j k p q r = unlike (seen i p ++ (seen j q ++ seen k r))

-- with the signs x on the first line and y on the second at the three vertices: both say the same, in whatever orders
same_say : Bool → Bool → Bool → Bool → Bool → Bool → Bool
same_say x0 x1 x2 y0 y1 y2 =
    all (λ p. all (λ q. all (λ r. beq (says y0 y1 y2 p q r) (says x0 x1 x2 (map not p) (map not q) (map not r)))
    (shorts (differ x2 x0) (differ y2 y0))) (shorts (differ x1 x2) (differ y1 y2))) (shorts (differ x0 x1) (differ y0 y1))

all_say : T (each (λ x0. each (λ x1. each (λ x2. each (λ y0. each (λ y1. each (λ y2. same_say x0 x1 x2 y0 y1 y2)))))))
unfolding each same_say says shorts unlike seen all
all_say = tt

pub say_at : (x0 x1 x2 y0 y1 y2 : Bool) (p q r : List Bool) → Memᴰ p (shorts (differ x0 x1) (differ y0 y1)) → Memᴰ q (shorts (differ x1 x2) (differ y1 y2)) → Memᴰ r (shorts (differ x2 x0) (differ y2 y0)) → says y0 y1 y2 p q r ≡ says x0 x1 x2 (map not p) (map not q) (map not r)
unfolding same_say
say_at x0 x1 x2 y0 y1 y2 p q r mp mq mr =
    same_bool _ _
    (all_at _ (shorts (differ x2 x0) (differ y2 y0)) (all_at _ (shorts (differ x1 x2) (differ y1 y2)) (all_at _ (shorts (differ x0 x1) (differ y0 y1))
    (each_at (λ y2. same_say x0 x1 x2 y0 y1 y2)
    (each_at (λ y1. each (λ y2. same_say x0 x1 x2 y0 y1 y2))
    (each_at (λ y0. each (λ y1. each (λ y2. same_say x0 x1 x2 y0 y1 y2)))
    (each_at (λ x2. each (λ y0. each (λ y1. each (λ y2. same_say x0 x1 x2 y0 y1 y2))))
    (each_at (λ x1. each (λ x2. each (λ y0. each (λ y1. each (λ y2. same_say x0 x1 x2 y0 y1 y2)))))
    (each_at (λ x0. each (λ x1. each (λ x2. each (λ y0. each (λ y1. each (λ y2. same_say x0 x1 x2 y0 y1 y2)))))) all_say x0)
    x1) x2) y0) y1) y2) mp) mq) mr)

-- an order that meets each of the two lines at most once is one of the short ones
once-le : (x : Bool) → once x ≤ 1
once-le true = omega arith
once-le false = omega arith

pub short : (l : List Bool) (x y : Bool) → count (λ e. e) l ≡ once x → count not l ≡ once y → Memᴰ l (shorts x y)
unfolding count shorts
short [] true y h k = absurd (omega arith)
short [] false true h k = absurd (omega arith)
short [] false false h k = here refl
short (true ∷ []) true true h k = absurd (omega arith)
short (true ∷ []) true false h k = here refl
short (true ∷ []) false y h k = absurd (omega arith)
short (false ∷ []) true y h k = absurd (omega arith)
short (false ∷ []) false true h k = here refl
short (false ∷ []) false false h k = absurd (omega arith)
short (true ∷ true ∷ r) x y h k = absurd (omega (arith, once-le x))
short (false ∷ false ∷ r) x y h k = absurd (omega (arith, once-le y))
short (true ∷ false ∷ []) true true h k = here refl
short (true ∷ false ∷ []) true false h k = absurd (omega arith)
short (true ∷ false ∷ []) false y h k = absurd (omega arith)
short (false ∷ true ∷ []) true true h k = there (here refl)
short (false ∷ true ∷ []) true false h k = absurd (omega arith)
short (false ∷ true ∷ []) false y h k = absurd (omega arith)
short (true ∷ false ∷ true ∷ r) x y h k = absurd (omega (arith, once-le x))
short (true ∷ false ∷ false ∷ r) x y h k = absurd (omega (arith, once-le y))
short (false ∷ true ∷ true ∷ r) x y h k = absurd (omega (arith, once-le x))
short (false ∷ true ∷ false ∷ r) x y h k = absurd (omega (arith, once-le y))
