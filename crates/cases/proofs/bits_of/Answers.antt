-- What equals itself is no NaN, and all else is.
use mathlib.Core.Path.{◌≡◌, refl, sym, ap, ◌∙◌}
use mathlib.Core.Bool.{Bool, true, false, beq, false≢true}
use Prim.Native.Nat.{◌*◌}
use borrow.Author.Tests.{eq-eqb}
use lib.Ieee.{Float, nan, inf, fin, up, down, binary64, eq, to_bits}
use Rattle.cases.proofs.bits_of.Goals as goal

same_sign : (s : Bool) → beq s s ≡ true
same_sign true = refl
same_sign false = refl

is_nan_lem : (x : Float) → eq x x ≡ false → x ≡ nan
unfolding eq
is_nan_lem nan h = refl
is_nan_lem (inf s) h = absurd (false≢true (sym h ∙ same_sign s))
is_nan_lem (fin s m e) h = let n = m * up e * down e in absurd (false≢true (sym h ∙ rw (eq-eqb n n refl, same_sign s) refl))

nan_bits : to_bits binary64 nan ≡ 9221120237041090560
unfolding to_bits
nan_bits = refl

pub returns : goal.returns
returns c = sym (ap (to_bits binary64) (is_nan_lem c.args.x c.if-x.false) ∙ nan_bits)
