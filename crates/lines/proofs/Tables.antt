-- Of a small table: all that it holds is below three, also where it is asked beyond its rows or columns, and there it answers 0. Assumes nothing.
use mathlib.Core.Path.{◌≡◌, refl, sym, ap}
use mathlib.Core.Bool.{Bool, ◌&&◌}
use mathlib.Core.List.{List, [], ◌∷◌}
use Prim.Native.Nat.{ℕ, zero, suc, ◌≤◌, ◌<◌}
use native.Mathlib.Omega.{arith}
use lib.Dec.{T, eqb, ltb, eqb→eq, ltb→lt}
use lib.Ieee.Fits.{and_l, and_r}
use lib.ListN.{length, get_or, get_or-eq_default}
use Rattle.floats.specs.Lists.{all}

abbrev below : List ℕ → Bool
below row = all (λ v. ltb v 3) row

-- all rows have w columns, of numbers below three
unfoldable pub small : ℕ → List (List ℕ) → Bool
unfolding all
small w t = all (λ row. eqb (length row) w && below row) t

row_below : (row : List ℕ) (b : ℕ) → T (below row) → get_or row b 0 < 3
unfolding all
row_below [] b h = omega arith
row_below (v ∷ row) zero h = ltb→lt v 3 (and_l (ltb v 3) (all (λ v. ltb v 3) row) h)
row_below (v ∷ row) (suc b) h = row_below row b (and_r (ltb v 3) (all (λ v. ltb v 3) row) h)

pub entry_below : (w : ℕ) (t : List (List ℕ)) (a b : ℕ) → T (small w t) → get_or (get_or t a []) b 0 < 3
unfolding all small
entry_below w [] a b h = row_below [] b tt
entry_below w (row ∷ t) zero b h = row_below row b (and_r (eqb (length row) w) (below row) (and_l (eqb (length row) w && below row) (small w t) h))
entry_below w (row ∷ t) (suc a) b h = entry_below w t a b (and_r (eqb (length row) w && below row) (small w t) h)

pub beyond_row : (t : List (List ℕ)) (a b : ℕ) → length t ≤ a → 0 ≡ get_or (get_or t a []) b 0
beyond_row t a b h = ap (λ row. get_or row b 0) (sym (get_or-eq_default t [] h))

pub beyond_column : (w : ℕ) (t : List (List ℕ)) (a b : ℕ) → T (small w t) → w ≤ b → 0 ≡ get_or (get_or t a []) b 0
unfolding all small
beyond_column w [] a b s h = refl
beyond_column w (row ∷ t) zero b s h =
    let k = eqb→eq (length row) w (and_l (eqb (length row) w) (below row) (and_l (eqb (length row) w && below row) (small w t) s)) in
    sym (get_or-eq_default row 0 (omega (arith, k)))
beyond_column w (row ∷ t) (suc a) b s h = beyond_column w t a b (and_r (eqb (length row) w && below row) (small w t) s) h
