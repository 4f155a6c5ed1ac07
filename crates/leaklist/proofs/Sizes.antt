-- The sum of absolute crosses, triangle by triangle. Assumes nothing.
use Prim.Native.Nat.{ℕ, suc, ◌+◌, ◌<◌}
use mathlib.Core.Path.{◌≡◌, refl, sym, ap, ap₂, ◌∙◌}
use mathlib.Core.List.{List, [], ◌∷◌, map}
use native.Mathlib.Numerals.{add-one}
use lib.ListN.{get_or, take, drop}
use Rattle.std.proofs.lemmas.List.{get_or-take, get_or-drop}
use lib.Ieee.{Float, binary64, add}
use Rattle.floats.specs.Finite.{nought}
use Rattle.shapes.specs.declared.Shape.{Shape}
use Rattle.listing.specs.Turns.{up_to, folded}
use Rattle.listing.proofs.Turns.{map-append, folded-append}
use Rattle.leaklist.specs.Code.{no_shape, shape_in, size_in, sum_in}

-- a triangle of a part of the table
pub part_read : (table : List Shape) (i m k : ℕ) → k < m → get_or (take m (drop i table)) k no_shape ≡ shape_in table (i + k)
part_read table i m k h = get_or-take m (drop i table) k no_shape h ∙ get_or-drop i table k no_shape

pub sum_none : (table : List Shape) (i : ℕ) → nought ≡ sum_in table i 0
unfolding sum_in up_to folded
sum_none table i = refl

one_added : (s r : Float) → folded (add binary64) s (r ∷ []) ≡ add binary64 s r
unfolding folded
one_added s r = refl

one_more : (table : List Shape) (i k : ℕ) → sum_in table i (suc k) ≡ add binary64 (sum_in table i k) (size_in table (i + k))
unfolding sum_in up_to
one_more table i k =
    ap (folded (add binary64) nought) (map-append (λ a. size_in table (i + a)) (up_to k) (k ∷ []))
    ∙ (folded-append (add binary64) nought (map (λ a. size_in table (i + a)) (up_to k)) (size_in table (i + k) ∷ []) ∙ one_added (folded (add binary64) nought (map (λ a. size_in table (i + a)) (up_to k))) (size_in table (i + k)))

pub sum_turn : (table : List Shape) (i k : ℕ) {s r : Float} → s ≡ sum_in table i k → r ≡ size_in table (i + k) → add binary64 s r ≡ sum_in table i (k + 1)
sum_turn table i k p q = ap₂ (add binary64) p q ∙ sym (ap (sum_in table i) (add-one k) ∙ one_more table i k)
