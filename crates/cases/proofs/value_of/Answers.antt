-- Both fields are asked before the bits are taken for a number.
use mathlib.Core.Path.{◌≡◌, refl, sym, subst, ◌∙◌}
use mathlib.Core.Bool.{Bool, true, false, not, ◌&&◌}
use Prim.Native.Nat.{ℕ, ◌%◌, ◌/◌}
use lib.Dec.{T, eqb}
use lib.Ieee.{nan, binary64, div, odd, of_fields, of_bits, nan_bits}
use borrow.Author.Tests.{eq-eqb, ne_eqb}
use Rattle.cases.proofs.value_of.Goals as goal

no_digits : (b : ℕ) → b % 4503599627370496 ≡ 0 → T (not (nan_bits binary64 b))
unfolding nan_bits
no_digits b h = let ones = eqb (b % 9223372036854775808 / 4503599627370496) 2047 in subst (λ t. T (not (ones && not t))) (sym (eq-eqb (b % 4503599627370496) 0 h)) (go ones)
  where
    go : (x : Bool) → T (not (x && not true))
    go true = tt
    go false = tt

no_ones : (b : ℕ) → (b % 9223372036854775808 / 4503599627370496 ≡ 2047 → ⊥) → T (not (nan_bits binary64 b))
unfolding nan_bits
no_ones b h = subst (λ t. T (not (t && not (eqb (b % 4503599627370496) 0)))) (sym (ne_eqb (b % 9223372036854775808 / 4503599627370496) 2047 h)) tt

a_nan : (b : ℕ) → b % 9223372036854775808 / 4503599627370496 ≡ 2047 → (b % 4503599627370496 ≡ 0 → ⊥) → of_bits binary64 b ≡ nan
unfolding of_bits of_fields
a_nan b h n = rw (h, ne_eqb (b % 4503599627370496) 0 n) refl

zero_by_zero : div binary64 (of_bits binary64 0) (of_bits binary64 0) ≡ nan
unfolding div of_bits of_fields odd
zero_by_zero = refl

pub float_from_bits-result : goal.float_from_bits-result
float_from_bits-result c = no_digits c.args.bits c.if-bits-eq0.true

pub returns-then-bits-eq2047 : goal.returns-then-bits-eq2047
returns-then-bits-eq2047 c = zero_by_zero ∙ sym (a_nan c.args.bits c.if-bits-eq2047.true c.if-bits-eq0.false)

pub float_from_bits-result-2 : goal.float_from_bits-result-2
float_from_bits-result-2 c = no_ones c.args.bits c.if-bits-eq2047.false
