-- Of a p that is at least zero and a q below zero, held by the format, the quotient p / (p − q) lies from 0 to 1 if p − q does not overflow. What is above zero less two values below zero is at least zero.
-- A finite value that is not at least zero is below zero; and one that is not zero, negated if it is below zero, is above zero. Assumes nothing.
use Prim.Native.Nat.{ℕ, zero, suc, ◌+◌, ◌-◌, ◌*◌, ◌%◌, ◌^◌, ◌≤◌, ◌<◌}
use mathlib.Core.Path.{◌≡◌, refl, sym, ap, subst, ◌∙◌}
use mathlib.Core.Bool.{Bool, true, false, not, ◌&&◌, ◌||◌, cond, true≢false, false≢true}
use native.Mathlib.Omega.{arith}
use native.Mathlib.Nat.{zero-lt-suc, lt_of_not-le, not-le_of_lt, add-zero, zero-mul, one-mul, mul-one, mul_assoc, mul-pos, mul-lt-mul_of_pos_right, lt_of_mul-lt-mul_right}
use lib.Dec.{T, ltb, leb, eqb, ltb→lt, leb→le, leb-suc-zero, eqb-suc-zero, eqb-zero-suc}
use lib.Pow.{pow-add, pow_pos, pow-lt}
use lib.IntN.{ℤ, pos, negsuc}
use lib.Ieee.{Float, nan, inf, fin, binary64, prec, emax, low, up, down, unlike, below, level, round, sum, sub, div, neg, lt, le, eq, fits, of_bits}
use lib.Ieee.Digits.{back}
use lib.Ieee.Fits.{up_pos, down_pos, and_l, and_r}
use lib.Ieee.Exact.{HasValue, round_exact}
use lib.Ieee.Order.{round_mono}
use lib.Ieee.Scale.{round_same}
use lib.Ieee.Positive.{num, den, positive, den_pos, own_value, positive_of_value, value_pos, values_of_le, above, above_of_le}
use borrow.Author.Tests.{lt-ltb, ltb-true, not-false}
use Rattle.floats.specs.Finite.{finite, nought, one}
use Rattle.floats.proofs.Lists.{so}
use Rattle.floats.proofs.Told.{sub_operands}

-- ---- a finite value and zero: its sign tells, and whether it has a digit
one_digit : (m : ℕ) → ltb 0 (suc m) ≡ true
one_digit m = lt-ltb 0 (suc m) (zero-lt-suc m)

digits : (m : ℕ) (e : ℤ) → ltb 0 (m * up e * 1) ≡ ltb 0 m
digits zero e = simp zero-mul
digits (suc m) e = lt-ltb 0 (suc m * up e * 1) (mul-pos (mul-pos (zero-lt-suc m) (up_pos e)) (zero-lt-suc 0)) ∙ sym (one_digit m)

lt-nought : (s : Bool) (m : ℕ) (e : ℤ) → lt (fin s m e) nought ≡ (s && ltb 0 m)
unfolding lt of_bits
lt-nought s m e = ap (below s (m * up e * 1) false) (zero-mul (down e)) ∙ go s
  where
    go : (s : Bool) → below s (m * up e * 1) false 0 ≡ (s && ltb 0 m)
    go false = leb-suc-zero (m * up e * 1)
    go true = ap (ltb 0) (add-zero (m * up e * 1)) ∙ digits m e

nought-lt : (m : ℕ) (e : ℤ) → lt nought (fin false m e) ≡ ltb 0 m
unfolding lt of_bits
nought-lt m e = ap (λ z. ltb z (m * up e * 1)) (zero-mul (down e)) ∙ digits m e

-- both zeros
eq-nought : (s : Bool) (e : ℤ) → eq (fin s 0 e) nought ≡ true
unfolding eq of_bits
eq-nought true e = simp zero-mul
eq-nought false e = simp zero-mul

nought-le : (s : Bool) (m : ℕ) (e : ℤ) → le nought (fin s m e) ≡ not (s && ltb 0 m)
unfolding le of_bits
nought-le s m e = ap (λ z. below false z s (m * up e * 1) || level false z s (m * up e * 1)) (zero-mul (down e)) ∙ (go s (m * up e * 1) ∙ ap (λ b. not (s && b)) (digits m e))
  where
    go : (s : Bool) (a : ℕ) → (below false 0 s a || level false 0 s a) ≡ not (s && ltb 0 a)
    go true zero = refl
    go false zero = refl
    go true (suc a) = rw (eqb-zero-suc a, one_digit a) refl
    go false (suc a) = rw (one_digit a) refl

no_minus : (m : ℕ) (e : ℤ) → le nought (fin true (suc m) e) ≡ true → ⊥
no_minus m e h = false≢true (sym (nought-le true (suc m) e ∙ ap not (one_digit m)) ∙ h)

-- a finite value that is not at least zero is below zero
pub minus_below : (p : Float) → finite p ≡ true → le nought p ≡ false → lt p nought ≡ true
minus_below nan f h = absurd (false≢true f)
minus_below (inf s) f h = absurd (false≢true f)
minus_below (fin s m e) f h = lt-nought s m e ∙ not-false (s && ltb 0 m) (sym (nought-le s m e) ∙ h)

-- a finite value that is not zero, negated if it is below zero, is above zero
pub turned_above : (d : Float) → finite d ≡ true → eq d nought ≡ false → lt nought (cond (lt d nought) (neg d) d) ≡ true
unfolding neg
turned_above nan f h = absurd (false≢true f)
turned_above (inf s) f h = absurd (false≢true f)
turned_above (fin s zero e) f h = absurd (true≢false (sym (eq-nought s e) ∙ h))
turned_above (fin true (suc m) e) f h = rw (lt-nought true (suc m) e, one_digit m) (nought-lt (suc m) e ∙ one_digit m)
turned_above (fin false (suc m) e) f h = rw (lt-nought false (suc m) e) (nought-lt (suc m) e ∙ one_digit m)

-- ---- what is at least zero less a value below zero: the sum of the two sizes, rounded
from_zero : (a b c : ℕ) → a ≡ 0 → 0 < b → sum binary64 true a false b c ≡ round binary64 false (a + b) c
unfolding sum
from_zero a b c z h = go (ltb a b) (lt-ltb a b (omega arith))
  where
    go : (t : Bool) → t ≡ true → cond t (round binary64 false (b - a) c) (round binary64 (ltb b a) (a - b) c) ≡ round binary64 false (a + b) c
    go true e = ap (λ k. round binary64 false k c) (omega arith)
    go false e = absurd (false≢true e)

sub_is : (s : Bool) (m : ℕ) (e : ℤ) (n : ℕ) (d : ℤ) → le nought (fin s m e) ≡ true → lt (fin true n d) nought ≡ true
    → sub binary64 (fin s m e) (fin true n d) ≡ round binary64 false (m * up e * down d + n * up d * down e) (down e * down d)
unfolding sub
sub_is false m e n d h k = refl
sub_is true zero e n d h k =
    from_zero (0 * up e * down d) (n * up d * down e) (down e * down d) (simp zero-mul)
    (mul-pos (mul-pos (ltb-true 0 n (sym (lt-nought true n d) ∙ k)) (up_pos d)) (down_pos e))
sub_is true (suc m) e n d h k = absurd (no_minus m e h)

round_at_least : (a c : ℕ) → 0 < c → le nought (round binary64 false a c) ≡ true
round_at_least a c C = subst (λ z. le z (round binary64 false a c) ≡ true) is (so (round_mono binary64 0 1 a c (zero-lt-suc 0) C (omega (arith, zero-mul c))))
  where
    is : round binary64 false 0 1 ≡ nought
    is = unfold round of_bits in refl

less_below : (y x : Float) → lt y nought ≡ true → le nought x ≡ true → le nought (sub binary64 x y) ≡ true
unfolding le sub of_bits
less_below nan x k h = absurd (false≢true k)
less_below (inf false) x k h = absurd (false≢true k)
less_below (inf true) nan k h = absurd (false≢true h)
less_below (inf true) (inf true) k h = absurd (false≢true h)
less_below (inf true) (inf false) k h = refl
less_below (inf true) (fin s m e) k h = refl
less_below (fin false n d) x k h = absurd (false≢true (sym (lt-nought false n d) ∙ k))
less_below (fin true n d) nan k h = absurd (false≢true h)
less_below (fin true n d) (inf true) k h = absurd (false≢true h)
less_below (fin true n d) (inf false) k h = refl
less_below (fin true n d) (fin s m e) k h = ap (le nought) (sub_is s m e n d h k) ∙ round_at_least (m * up e * down d + n * up d * down e) (down e * down d) (mul-pos (down_pos e) (down_pos d))

-- what is above zero less two values below zero is at least zero, overflow included
pub less_two_below : (d x y : Float) → lt nought d ≡ true → lt x nought ≡ true → lt y nought ≡ true → le nought (sub binary64 (sub binary64 d x) y) ≡ true
unfolding le
less_two_below d x y h k l = less_below y (sub binary64 d x) l (less_below x d k (rw h refl))

-- ---- what the format holds it rounds to itself, so a sum is no smaller than a part that the format holds
-- 2 ^ e is 2 ^ j times the smallest value, 1 / 2 ^ l
power : (l : ℕ) (e : ℤ) → down e ≤ 2 ^ l → (j : ℕ) × (up e * 2 ^ l ≡ 2 ^ j * down e)
power l (pos k) h = (k + l, sym (pow-add 2 k l) ∙ sym (mul-one (2 ^ (k + l))))
power l (negsuc k) h = (l - suc k, one-mul (2 ^ l) ∙ (ap (λ n. 2 ^ n) (sym (back l (suc k) most)) ∙ pow-add 2 (l - suc k) (suc k)))
  where
    most : k < l
    most = lt_of_not-le (λ (g : l ≤ k). not-le_of_lt (pow-lt {i = l} {j = suc k} (omega arith)) h)

under : (a b D L X : ℕ) → 0 < L → a * L ≡ b * D → a < X * D → b < L * X
under a b D L X P e h = let g = mul-lt-mul_of_pos_right h P in lt_of_mul-lt-mul_right D (omega (arith, g, e))

itself : (s : Bool) (m : ℕ) (e : ℤ) → T (fits binary64 (fin s (suc m) e)) → HasValue (round binary64 false (suc m * up e) (down e)) false (suc m * up e) (down e)
unfolding fits
itself s m e t =
    let l = low binary64 in
    let X = 2 ^ suc (emax binary64) in
    let a = eqb (suc m % 2) 1 in
    let b = ltb (suc m) (2 ^ prec binary64) in
    let c = leb (down e) (2 ^ l) in
    let d = ltb (suc m * up e) (X * down e) in
    let r = and_l (a && b && c) d t in
    let j = power l e (leb→le (down e) (2 ^ l) (and_r (a && b) c r)) in
    let v : suc m * up e * 2 ^ l ≡ suc m * 2 ^ j.0 * down e = mul_assoc (suc m) (up e) (2 ^ l) ∙ (ap (λ k. suc m * k) j.1 ∙ sym (mul_assoc (suc m) (2 ^ j.0) (down e))) in
    let u = under (suc m * up e) (suc m * 2 ^ j.0) (down e) (2 ^ l) X (pow_pos l) v (ltb→lt (suc m * up e) (X * down e) (and_r (a && b && c) d t)) in
    round_exact binary64 false (suc m * up e) (down e) (suc m) j.0 (down_pos e) (ltb→lt (suc m) (2 ^ prec binary64) (and_r a b (and_l (a && b) c r)))
    (subst (λ k. suc m * 2 ^ j.0 < k) (sym (pow-add 2 l (suc (emax binary64)))) u) v

finite-above : (x : Float) → T (above x) → finite x ≡ true → T (positive x)
finite-above nan a f = absurd a
finite-above (inf s) a f = absurd (false≢true f)
finite-above (fin true m e) a f = absurd a
finite-above (fin false m e) a f = a

-- w is a / c, rounded
module _ (w : Float) (a c : ℕ) (C : 0 < c) (is : w ≡ round binary64 false a c) (f : finite w ≡ true) where
  no_smaller : (s : Bool) (m : ℕ) (e : ℤ) → T (fits binary64 (fin s (suc m) e)) → suc m * up e * c ≤ a * down e → T (positive w) × (suc m * up e * den w ≤ num w * down e)
  no_smaller s m e t h =
      let z = round binary64 false (suc m * up e) (down e) in
      let v = itself s m e t in
      let pz = positive_of_value z (suc m * up e) (down e) v (mul-pos (zero-lt-suc m) (up_pos e)) in
      let l : T (le z w) = subst (λ x. T (le z x)) (sym is) (round_mono binary64 (suc m * up e) (down e) a c (down_pos e) C h) in
      let pw = finite-above w (above_of_le z w pz l) f in
      (pw, values_of_le z w (suc m * up e) (down e) (num w) (den w) pz pw v (own_value w pw) l)

  at_most : (s : Bool) (m : ℕ) (e : ℤ) → T (fits binary64 (fin s m e)) → m * up e * c ≤ a * down e → m * up e * den w ≤ num w * down e
  at_most s zero e t h = simp zero-mul (omega arith)
  at_most s (suc m) e t h = (no_smaller s m e t h).1

-- ---- the quotient
abbrev Lies : Float → Type 0
Lies x = (le nought x ≡ true) × (le x one ≡ true)

round-Lies : (a b : ℕ) → 0 < b → a ≤ b → Lies (round binary64 false a b)
round-Lies a b B h = (round_at_least a b B, subst (λ z. le (round binary64 false a b) z ≡ true) is (so (round_mono binary64 a b 1 1 B (zero-lt-suc 0) (omega arith))))
  where
    is : round binary64 false 1 1 ≡ one
    is = unfold round of_bits in refl

div_is : (s : Bool) (m : ℕ) (e : ℤ) (w : Float) → T (positive w) → div binary64 (fin s m e) w ≡ round binary64 s (m * up e * den w) (num w * down e)
unfolding div
div_is s m e nan p = absurd p
div_is s m e (inf t) p = absurd p
div_is s m e (fin true n d) p = absurd p
div_is s m e (fin false zero d) p = absurd p
div_is s m e (fin false (suc n) d) p =
    ap (λ b. cond b (cond (eqb m 0) nan (inf (unlike s false))) (round binary64 (unlike s false) (m * up e * down d) (suc n * up d * down e))) (eqb-suc-zero n)
    ∙ ap (λ t. round binary64 t (m * up e * down d) (suc n * up d * down e)) (own s)
  where
    own : (s : Bool) → unlike s false ≡ s
    own true = refl
    own false = refl

quotient_Lies : (s : Bool) (m : ℕ) (e : ℤ) (w : Float) → le nought (fin s m e) ≡ true → T (positive w) → m * up e * den w ≤ num w * down e → Lies (div binary64 (fin s m e) w)
quotient_Lies s m e w h p l = subst Lies (sym (div_is s m e w p)) (go s m h l)
  where
    some : 0 < num w * down e
    some = mul-pos (value_pos w (num w) (den w) p (den_pos w) (own_value w p)) (down_pos e)

    none : 0 * (num w * down e) ≡ 0 * up e * den w * 1
    none = simp zero-mul

    go : (s : Bool) (m : ℕ) → le nought (fin s m e) ≡ true → m * up e * den w ≤ num w * down e → Lies (round binary64 s (m * up e * den w) (num w * down e))
    go false m h l = round-Lies (m * up e * den w) (num w * down e) some l
    go true zero h l = subst Lies (round_same binary64 true 0 1 (0 * up e * den w) (num w * down e) (zero-lt-suc 0) some none) (unfold round le of_bits in (refl, refl))
    go true (suc m) h l = absurd (no_minus m e h)

-- Of a p that is at least zero and a q below zero, both held by the format, whose difference does not overflow, the quotient p / (p − q) lies from 0 to 1, both included.
-- (A q that the format does not hold could be so small that 0 − q rounds to 0.)
pub from_nought_to_one : (p q : Float) → T (fits binary64 p) → T (fits binary64 q) → le nought p ≡ true → lt q nought ≡ true → finite (sub binary64 p q) ≡ true
    → (le nought (div binary64 p (sub binary64 p q)) ≡ true) × (le (div binary64 p (sub binary64 p q)) one ≡ true)
from_nought_to_one nan q fp fq h k f = absurd (false≢true (sub_operands nan q f).0)
from_nought_to_one (inf s) q fp fq h k f = absurd (false≢true (sub_operands (inf s) q f).0)
from_nought_to_one (fin s m e) nan fp fq h k f = absurd (false≢true (sub_operands (fin s m e) nan f).1)
from_nought_to_one (fin s m e) (inf t) fp fq h k f = absurd (false≢true (sub_operands (fin s m e) (inf t) f).1)
from_nought_to_one (fin s m e) (fin false n d) fp fq h k f = absurd (false≢true (sym (lt-nought false n d) ∙ k))
from_nought_to_one (fin s m e) (fin true zero d) fp fq h k f = absurd (false≢true (sym (lt-nought true zero d) ∙ k))
from_nought_to_one (fin s m e) (fin true (suc n) d) fp fq h k f =
    let w = sub binary64 (fin s m e) (fin true (suc n) d) in
    let a = m * up e * down d + suc n * up d * down e in
    let c = down e * down d in
    let C = mul-pos (down_pos e) (down_pos d) in
    let is = sub_is s m e (suc n) d h k in
    quotient_Lies s m e w h (no_smaller w a c C is f true n d fq (second (m * up e) (suc n * up d) (down e) (down d))).0
    (at_most w a c C is f s m e fp (first (m * up e) (suc n * up d) (down e) (down d)))
  where
    first : (x y E D : ℕ) → x * (E * D) ≤ (x * D + y * E) * E
    first x y E D = omega arith

    second : (x y E D : ℕ) → y * (E * D) ≤ (x * D + y * E) * D
    second x y E D = omega arith
