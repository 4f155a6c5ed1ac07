-- A test whether two floats are the same, bit for bit, and that it is right. Assumes nothing.
use mathlib.Core.Path.{◌≡◌, refl}
use mathlib.Core.Bool.{Bool, true, false, ◌&&◌, beq}
use lib.Dec.{T, eqb, eqb→eq}
use lib.IntN.{ℤ, pos, negsuc}
use lib.Ieee.{Float, nan, inf, fin}
use lib.Ieee.Fits.{and_l, and_r}
use Rattle.floats.proofs.Lists.{same_bool}

unfoldable pub same_whole : ℤ → ℤ → Bool
same_whole (pos m) (pos n) = eqb m n
same_whole (pos m) (negsuc n) = false
same_whole (negsuc m) (pos n) = false
same_whole (negsuc m) (negsuc n) = eqb m n

same_whole_lem : (a b : ℤ) → T (same_whole a b) → a ≡ b
unfolding same_whole
same_whole_lem (pos m) (pos n) t = rw (eqb→eq m n t) refl
same_whole_lem (pos m) (negsuc n) t = absurd t
same_whole_lem (negsuc m) (pos n) t = absurd t
same_whole_lem (negsuc m) (negsuc n) t = rw (eqb→eq m n t) refl

unfoldable pub same_float : Float → Float → Bool
unfolding same_whole
same_float nan nan = true
same_float nan (inf t) = false
same_float nan (fin t n d) = false
same_float (inf s) nan = false
same_float (inf s) (inf t) = beq s t
same_float (inf s) (fin t n d) = false
same_float (fin s m e) nan = false
same_float (fin s m e) (inf t) = false
same_float (fin s m e) (fin t n d) = beq s t && (eqb m n && same_whole e d)

pub same_float_lem : (a b : Float) → T (same_float a b) → a ≡ b
unfolding same_float
same_float_lem nan nan t = refl
same_float_lem nan (inf s) t = absurd t
same_float_lem nan (fin s n d) t = absurd t
same_float_lem (inf s) nan t = absurd t
same_float_lem (inf s) (inf r) t = rw (same_bool s r t) refl
same_float_lem (inf s) (fin r n d) t = absurd t
same_float_lem (fin s m e) nan t = absurd t
same_float_lem (fin s m e) (inf r) t = absurd t
same_float_lem (fin s m e) (fin r n d) t =
    let k = and_r (beq s r) (eqb m n && same_whole e d) t in
    rw (same_bool s r (and_l (beq s r) (eqb m n && same_whole e d) t), eqb→eq m n (and_l (eqb m n) (same_whole e d) k), same_whole_lem e d (and_r (eqb m n) (same_whole e d) k)) refl
