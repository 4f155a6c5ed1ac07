-- A value whose sign is plus is not below zero; a value with its sign turned where it is below zero is not below zero; and of a value whose sign is plus and one that is not below zero the sum has the sign plus. Assumes nothing.
use Prim.Native.Nat.{ℕ, ◌+◌, ◌-◌, ◌*◌}
use mathlib.Core.Path.{◌≡◌, refl, sym, ap, ◌∙◌}
use mathlib.Core.Bool.{Bool, true, false, cond, true≢false, false≢true}
use native.Mathlib.Omega.{arith}
use native.Mathlib.Nat.{zero-mul}
use lib.Dec.{leb-suc-zero}
use lib.IntN.{ℤ}
use lib.Ieee.{Float, nan, inf, fin, binary64, up, down, sum, add, neg, lt, of_bits}
use borrow.Author.Tests.{ltb-false}
use Rattle.floats.specs.Finite.{nought}
use Rattle.floats.proofs.Sums.{is_plus, round_plus}

pub not_below : (x : Float) → is_plus x ≡ true → lt x nought ≡ false
unfolding lt of_bits
not_below nan h = refl
not_below (inf true) h = absurd (false≢true h)
not_below (inf false) h = refl
not_below (fin true m e) h = absurd (false≢true h)
not_below (fin false m e) h = rw (zero-mul (down e), leb-suc-zero (m * up e * 1)) refl

turned_back : (x : Float) → lt x nought ≡ true → lt (neg x) nought ≡ false
unfolding neg
turned_back nan h = absurd (unfold lt in false≢true h)
turned_back (inf true) h = not_below (inf false) refl
turned_back (inf false) h = absurd (true≢false (sym h ∙ not_below (inf false) refl))
turned_back (fin true m e) h = not_below (fin false m e) refl
turned_back (fin false m e) h = absurd (true≢false (sym h ∙ not_below (fin false m e) refl))

pub turned_not_below : (x : Float) → lt (cond (lt x nought) (neg x) x) nought ≡ false
turned_not_below x = go (lt x nought) refl
  where
    go : (b : Bool) → lt x nought ≡ b → lt (cond b (neg x) x) nought ≡ false
    go true e = turned_back x e
    go false e = e

-- a value that is written with a minus and is not below zero is zero
no_size : (n : ℕ) (d : ℤ) → lt (fin true n d) nought ≡ false → n * up d ≡ 0
unfolding lt of_bits
no_size n d h = let l = ltb-false 0 (n * up d * 1 + 0 * down d) h in omega (arith, l)

pub sum_plus : (x y : Float) → is_plus x ≡ true → lt y nought ≡ false → is_plus (add binary64 x y) ≡ true
unfolding add sum
sum_plus nan y h k = refl
sum_plus (inf true) y h k = absurd (false≢true h)
sum_plus (inf false) nan h k = refl
sum_plus (inf false) (inf true) h k = absurd (unfold lt of_bits in true≢false k)
sum_plus (inf false) (inf false) h k = refl
sum_plus (inf false) (fin t n d) h k = refl
sum_plus (fin true m e) y h k = absurd (false≢true h)
sum_plus (fin false m e) nan h k = refl
sum_plus (fin false m e) (inf true) h k = absurd (unfold lt of_bits in true≢false k)
sum_plus (fin false m e) (inf false) h k = refl
sum_plus (fin false m e) (fin false n d) h k = round_plus (m * up e * down d + n * up d * down e) (down e * down d)
sum_plus (fin false m e) (fin true n d) h k = rw (ap (λ s. s * down e) (no_size n d k) ∙ zero-mul (down e), leb-suc-zero (m * up e * down d)) (round_plus (m * up e * down d - 0) (down e * down d))
