-- A float that is a whole number is at least zero, below zero or zero exactly if the whole number is. Assumes nothing.
use Prim.Native.Nat.{ℕ, zero, suc, ◌*◌, ◌<◌}
use mathlib.Core.Path.{◌≡◌, refl, ap, ◌∙◌}
use mathlib.Core.Bool.{Bool, true, false, ◌||◌}
use native.Mathlib.Omega.{arith}
use native.Mathlib.Nat.{add-zero, zero-mul, mul-pos, zero-lt-suc}
use lib.Dec.{leb-zero, leb-suc-zero, leb-suc-suc, eqb-zero-suc, eqb-suc-zero}
use lib.IntN.{ℤ, pos, negsuc}
use lib.Ieee.{Float, nan, inf, fin, down, below, level, lt, le, eq, of_bits}
use lib.Ieee.Fits.{down_pos}
use lib.Ieee.Exact.{HasValue}
use Rattle.floats.specs.Finite.{nought}
use Rattle.floats.specs.Whole.{is_not_negative, is_negative, is_nought}
use Rattle.centimetres.proofs.Exact.{signed, Exact}

-- ---- by sign and size
at_least : (s : Bool) (n : ℕ) → (below false 0 s n || level false 0 s n) ≡ is_not_negative (signed s n)
at_least false zero = refl
at_least false (suc n) = rw (leb-suc-suc, leb-zero) refl
at_least true zero = refl
at_least true (suc n) = rw eqb-zero-suc refl

under : (s : Bool) (n : ℕ) → below s n false 0 ≡ is_negative (signed s n)
under false n = leb-suc-zero n
under true zero = refl
under true (suc n) = rw (add-zero, leb-suc-suc, leb-zero) refl

level-zero : (s : Bool) (n : ℕ) → level s n false 0 ≡ is_nought (signed s n)
level-zero false zero = refl
level-zero false (suc n) = rw eqb-suc-zero refl
level-zero true zero = refl
level-zero true (suc n) = rw eqb-suc-zero refl

-- a test of the sign alone is the same of a multiple
module _ (p : ℤ → Bool) (up_same : (i j : ℕ) → p (pos (suc i)) ≡ p (pos (suc j))) (down-same : (i j : ℕ) → p (negsuc i) ≡ p (negsuc j)) where
  multiple : (s : Bool) (n d : ℕ) → 0 < d → p (signed s (n * d)) ≡ p (signed s n)
  multiple s zero d D = rw zero-mul refl
  multiple s (suc n) d D = go (suc n * d) refl s
    where
      go : (k : ℕ) → suc n * d ≡ k → (s : Bool) → p (signed s k) ≡ p (signed s (suc n))
      go zero e s = let h = mul-pos (zero-lt-suc n) D in absurd (omega arith)
      go (suc k) e false = up_same k n
      go (suc k) e true = down-same k n

-- ---- of floats
le_value : (x : Float) (s : Bool) (n : ℕ) → HasValue x s n 1 → le nought x ≡ is_not_negative (signed s n)
unfolding le of_bits
le_value nan s n v = absurd v
le_value (inf t) s n v = absurd v
le_value (fin t m e) s n v =
    rw (v.0, v.1) (ap (λ z. below false z s (n * down e) || level false z s (n * down e)) (zero-mul (down e)) ∙ at_least s (n * down e)) ∙ multiple is_not_negative (λ i j. refl) (λ i j. refl) s n (down e) (down_pos e)

lt_value : (x : Float) (s : Bool) (n : ℕ) → HasValue x s n 1 → lt x nought ≡ is_negative (signed s n)
unfolding lt of_bits
lt_value nan s n v = absurd v
lt_value (inf t) s n v = absurd v
lt_value (fin t m e) s n v =
    rw (zero-mul (down e), v.0, v.1) (under s (n * down e)) ∙ multiple is_negative (λ i j. refl) (λ i j. refl) s n (down e) (down_pos e)

eq_value : (x : Float) (s : Bool) (n : ℕ) → HasValue x s n 1 → eq x nought ≡ is_nought (signed s n)
unfolding eq of_bits
eq_value nan s n v = absurd v
eq_value (inf t) s n v = absurd v
eq_value (fin t m e) s n v =
    rw (zero-mul (down e), v.0, v.1) (level-zero s (n * down e)) ∙ multiple is_nought (λ i j. refl) (λ i j. refl) s n (down e) (down_pos e)

module _ {x : Float} {z : ℤ} (h : Exact x z) where
  pub le_exact : le nought x ≡ is_not_negative z
  le_exact = le_value x h.sign h.size h.value ∙ ap is_not_negative h.number

  pub lt_exact : lt x nought ≡ is_negative z
  lt_exact = lt_value x h.sign h.size h.value ∙ ap is_negative h.number

  pub eq_exact : eq x nought ≡ is_nought z
  eq_exact = eq_value x h.sign h.size h.value ∙ ap is_nought h.number
