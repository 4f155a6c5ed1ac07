-- An area that is finite and not above zero is 0.0: the sum starts at 0.0 and so never is −0.0, and half of it, with its sign turned where it is below zero, has a plus for its sign. Assumes nothing.
use mathlib.Core.Path.{◌≡◌, refl, ap, ◌∙◌}
use mathlib.Core.Bool.{Bool, true, false, cond}
use mathlib.Core.List.{List, [], ◌∷◌}
use Prim.Native.Nat.{ℕ, zero, suc, ◌+◌, ◌-◌}
use lib.Dec.{T}
use lib.ListN.{length}
use lib.Ieee.{binary64, mul, of_bits, fits}
use lib.Ieee.Fits.{add-fits, sub-fits, mul-fits}
use lib.Ieee.Bits.{of_bits-fits}
use Rattle.floats.specs.Finite.{finite, nought}
use Rattle.floats.specs.Numbers.{Point, cross_from}
use Rattle.floats.specs.Way.{Way, negated, f64}
use Rattle.floats.proofs.Sums.{is_minus_zero, is_plus, sum_not, turned_plus, product_plus, not_above}
use Rattle.triangles.specs.Positions.{corner_at, sum_to, half, area_of}
use Rattle.triangles.specs.Decision.{is_above}

sum_fits : (cs : List (Point Way)) (m : ℕ) → T (fits binary64 (sum_to cs m).value)
unfolding sum_to
sum_fits cs zero = of_bits-fits binary64 0
sum_fits cs (suc m) = add-fits binary64 (sum_to cs m).value (cross_from f64 (corner_at cs 0) (corner_at cs (m + 1)) (corner_at cs (m + 2))).value

sum_never : (cs : List (Point Way)) (m : ℕ) → is_minus_zero (sum_to cs m).value ≡ false
unfolding sum_to
sum_never cs zero = unfold of_bits in refl
sum_never cs (suc m) = sum_not (sum_to cs m).value (cross_from f64 (corner_at cs 0) (corner_at cs (m + 1)) (corner_at cs (m + 2))).value (sum_fits cs m) (sub-fits binary64 _ _) (sum_never cs m)

turned : (b : Bool) (a : Way) → (cond b (negated a) a).value ≡ cond b (negated a).value a.value
turned true a = refl
turned false a = refl

pub area_nought_lem : (cs : List (Point Way)) → finite (area_of cs).value ≡ true → is_above (area_of cs).value ≡ false → (area_of cs).value ≡ nought
unfolding area_of
area_nought_lem [] f h = refl
area_nought_lem (c ∷ cs) f h =
    let sum = sum_to (c ∷ cs) (length (c ∷ cs) - 2) in
    let x = (cond (f64.is_below_zero sum) (negated sum) sum).value in
    let plus = ap is_plus (turned (f64.is_below_zero sum) sum) ∙ turned_plus sum.value (sum_never (c ∷ cs) (length (c ∷ cs) - 2)) in
    not_above (mul binary64 half x) (mul-fits binary64 half x) (product_plus half x (unfold of_bits in refl) plus) f h
