-- A sum from 0.0 on is never −0.0; and a value that fits, is finite, and whose sign is plus is 0.0 where it is not above zero. So half of such a sum, with its sign turned where it is below zero, is 0.0 or above zero. Assumes nothing.
use Prim.Native.Nat.{ℕ, zero, suc, ◌+◌, ◌-◌, ◌*◌, ◌/◌, ◌%◌, ◌^◌, ◌≤◌, ◌<◌, compare}
use mathlib.Core.Path.{◌≡◌, refl, sym, ap, ap₂, subst, ◌∙◌}
use mathlib.Core.Bool.{Bool, true, false, not, ◌&&◌, beq, cond, true≢false, false≢true}
use native.Mathlib.Omega.{arith}
use native.Mathlib.Nat.{lt_of_lt_of_le, not-le_of_lt, mul_comm, mul_assoc, mul_right_comm, zero-mul, suc-mul, add-mul, mul-sub, mul-pos, mul-le-mul_right, mul-lt-mul_of_pos_right, lt_of_mul-lt-mul_right, le-div_iff_mul-le}
use lib.Dec.{T, eqb, leb, ltb, leb→le, eqb→eq, leb-suc-zero}
use lib.Pow.{pow-add, pow_pos, pow-lt}
use lib.IntN.{ℤ, pos, negsuc}
use lib.Ieee.{Float, nan, inf, fin, Format, binary64, prec, emax, low, up, down, size, nearest, odd, units, round, sum, add, neg, mul, lt, fits, of_bits}
use lib.Ieee.Digits.{size_reaches, size-lt}
use lib.Ieee.Fits.{round_is, and_l, and_r, up_pos, down_pos}
use lib.Ieee.Exact.{HasValue, odd_sign}
use lib.Ieee.Nearest.{nearest-ge}
use borrow.Author.Tests.{eqb-false, ltb-true, ltb-false, ne_eqb, lt-ltb}
use Rattle.floats.specs.Finite.{finite, nought}

-- −0.0
abbrev pub is_minus_zero : Float → Bool
is_minus_zero nan = false
is_minus_zero (inf s) = false
is_minus_zero (fin s m e) = s && eqb m 0

-- its sign is plus; a NaN counts as plus
abbrev pub is_plus : Float → Bool
is_plus nan = true
is_plus (inf s) = not s
is_plus (fin s m e) = not s

pub plus_not : (x : Float) → is_plus x ≡ true → is_minus_zero x ≡ false
plus_not nan h = refl
plus_not (inf s) h = refl
plus_not (fin false m e) h = refl
plus_not (fin true m e) h = absurd (false≢true h)

-- ---- rounding
-- a value with a size above zero is no zero
some_size : (x : Float) (s : Bool) (a c : ℕ) → HasValue x s a c → 0 < a → is_minus_zero x ≡ false
some_size nan s a c v h = refl
some_size (inf t) s a c v h = refl
some_size (fin false m e) s a c v h = refl
some_size (fin true zero e) s a c v h = let w = v.1 in let g = mul-pos h (down_pos e) in let z = zero-mul (up e) in let y = zero-mul c in absurd (omega (arith, g, sym w ∙ (ap (λ k. k * c) z ∙ y)))
some_size (fin true (suc m) e) s a c v h = ne_eqb (suc m) 0 (λ z. omega (arith, z))

-- what is rounded keeps its sign
plus_odd : (d q k l : ℕ) → is_plus (odd d false q k l) ≡ true
unfolding odd
plus_odd d zero k l = refl
plus_odd d (suc q) k l = refl

plus_units : (f : Format) (q k : ℕ) → is_plus (units f false q k) ≡ true
unfolding units
plus_units f q k = go (ltb (q * 2 ^ k) (2 ^ (low f + suc (emax f))))
  where
    go : (b : Bool) → is_plus (cond b (odd (suc (prec f)) false q k (low f)) (inf false)) ≡ true
    go true = plus_odd (suc (prec f)) q k (low f)
    go false = refl

pub round_plus : (num den : ℕ) → is_plus (round binary64 false num den) ≡ true
round_plus num den =
    let n = num * 2 ^ low binary64 in
    let k = size (n / den) - prec binary64 in
    let u = den * 2 ^ k in
    ap is_plus (round_is binary64 false num den) ∙ plus_units binary64 (nearest (n / u) (compare (n % u * 2) u)) k

round_not : (num den : ℕ) → is_minus_zero (round binary64 false num den) ≡ false
round_not num den = plus_not (round binary64 false num den) (round_plus num den)

-- one unit of the smallest value, or more, is not rounded to zero
some_units : (f : Format) (s : Bool) (q k : ℕ) → 0 < q → is_minus_zero (units f s q k) ≡ false
unfolding units
some_units f s q k h = go (ltb (q * 2 ^ k) (2 ^ (low f + suc (emax f))))
  where
    go : (b : Bool) → is_minus_zero (cond b (odd (suc (prec f)) s q k (low f)) (inf s)) ≡ false
    go true = some_size (odd (suc (prec f)) s q k (low f)) s (q * 2 ^ k) (2 ^ low f) (odd_sign (suc (prec f)) s q k (low f)) (mul-pos h (pow_pos k))
    go false = refl

kept_some : (n den p : ℕ) → 0 < den → 0 < p → den ≤ n → 0 < n / (den * 2 ^ (size (n / den) - p))
kept_some n den p D P h =
    let w = n / den in
    let one : 1 ≤ w = (le-div_iff_mul-le D).1 (let e = add_one-mul den in omega (arith, e, h)) in
    let k = size w - p in
    let some : 0 < size w = positive w one in
    let reach : 2 ^ k ≤ w = size_reaches w k (omega (arith, some, P)) in
    let all : 2 ^ k * den ≤ n = (le-div_iff_mul-le D).0 reach in
    (le-div_iff_mul-le (mul-pos D (pow_pos k))).1 (let e = add_one-mul (den * 2 ^ k) in let c = mul_comm den (2 ^ k) in omega (arith, e, c, all))
  where
    add_one-mul : (m : ℕ) → 1 * m ≡ m
    add_one-mul m = suc-mul 0 m ∙ (let z = zero-mul m in omega (arith, z))

    positive : (w : ℕ) → 1 ≤ w → 0 < size w
    positive w one = go (size w) refl
      where
        go : (k : ℕ) → size w ≡ k → 0 < k
        go zero e = let l = subst (λ k. w < 2 ^ k) e (size-lt w) in absurd (omega (arith, l, one))
        go (suc k) e = omega arith

round_some : (s : Bool) (num den : ℕ) → 0 < den → den ≤ num * 2 ^ low binary64 → is_minus_zero (round binary64 s num den) ≡ false
round_some s num den D h =
    let n = num * 2 ^ low binary64 in
    let k = size (n / den) - prec binary64 in
    let u = den * 2 ^ k in
    ap is_minus_zero (round_is binary64 s num den)
    ∙ some_units binary64 s (nearest (n / u) (compare (n % u * 2) u)) k (lt_of_lt_of_le (kept_some n den 53 D (omega arith) h) (nearest-ge (n / u) (compare (n % u * 2) u)))

-- ---- sums
-- in units of the smallest value a finite value is a whole number
abbrev Units : ℕ → ℤ → ℕ → Type 0
Units m e n = m * up e * 2 ^ low binary64 ≡ n * down e

down_divides : (e : ℤ) → down e ≤ 2 ^ low binary64 → (j : ℕ) × (2 ^ low binary64 ≡ j * down e)
down_divides (pos k) h = (2 ^ low binary64, sym (times_one (2 ^ low binary64)))
  where
    times_one : (n : ℕ) → n * 1 ≡ n
    times_one n = omega arith
down_divides (negsuc k) h = (2 ^ (1074 - suc k), ap (λ n. 2 ^ n) (sym (parts 1074 (suc k) most)) ∙ pow-add 2 (1074 - suc k) (suc k))
  where
    parts : (n k : ℕ) → k ≤ n → n - k + k ≡ n
    parts n k h = omega (arith, h)

    most : suc k ≤ 1074
    most = go (ltb 1074 (suc k)) refl
      where
        go : (b : Bool) → ltb 1074 (suc k) ≡ b → suc k ≤ 1074
        go true e = absurd (not-le_of_lt (pow-lt (ltb-true 1074 (suc k) e)) h)
        go false e = ltb-false 1074 (suc k) e

in_Units : (s : Bool) (m : ℕ) (e : ℤ) → T (fits binary64 (fin s m e)) → (n : ℕ) × Units m e n
unfolding fits
in_Units s zero e t = (0, ap (λ k. k * 2 ^ low binary64) (zero-mul (up e)) ∙ (zero-mul (2 ^ low binary64) ∙ sym (zero-mul (down e))))
in_Units s (suc m) e t =
    let j = down_divides e (leb→le (down e) (2 ^ low binary64) (and_r (eqb (suc m % 2) 1 && ltb (suc m) (2 ^ prec binary64)) (leb (down e) (2 ^ low binary64)) (and_l (eqb (suc m % 2) 1 && ltb (suc m) (2 ^ prec binary64) && leb (down e) (2 ^ low binary64)) (ltb (suc m * up e) (2 ^ suc (emax binary64) * down e)) t))) in
    (suc m * up e * j.0, ap (λ k. suc m * up e * k) j.1 ∙ sym (mul_assoc (suc m * up e) j.0 (down e)))

some_in_Units : (m : ℕ) (e : ℤ) (n : ℕ) → Units m e n → 0 < m → 0 < n
some_in_Units m e zero u h = let g : 0 < 0 = subst (λ k. 0 < k) (u ∙ zero-mul (down e)) (mul-pos (mul-pos h (up_pos e)) (pow_pos (low binary64))) in absurd (omega (arith, g))
some_in_Units m e (suc n) u h = omega arith

-- over the denominator of a sum
over : (m : ℕ) (e : ℤ) (n d : ℕ) → Units m e n → m * up e * d * 2 ^ low binary64 ≡ n * (down e * d)
over m e n d u = mul_right_comm (m * up e) d (2 ^ low binary64) ∙ (ap (λ k. k * d) u ∙ mul_assoc n (down e) d)

-- two sizes that differ do so by one unit at least, and two together have one if one of them has
differ_some : (a b A B c L : ℕ) → a * L ≡ A * c → b * L ≡ B * c → 0 < L → a < b → c ≤ (b - a) * L
differ_some a b A B c L p q l h =
    let wide : a * L < b * L = mul-lt-mul_of_pos_right h l in
    let less : A < B = lt_of_mul-lt-mul_right c (let x = p in let y = q in omega (arith, wide, x, y)) in
    let next : suc A * c ≤ B * c = mul-le-mul_right c less in
    let more : suc A * c ≡ A * c + c = suc-mul A c in
    let back : (b - a) * L ≡ b * L - a * L = mul_comm (b - a) L ∙ (mul-sub L b a ∙ ap₂ ◌-◌ (mul_comm L b) (mul_comm L a)) in
    omega (arith, next, more, back, p, q)

both_some : (a b A B c L : ℕ) → a * L ≡ A * c → b * L ≡ B * c → 0 < A → c ≤ (a + b) * L
both_some a b A B c L p q h =
    let one : suc 0 * c ≤ A * c = mul-le-mul_right c h in
    let e : suc 0 * c ≡ 0 * c + c = suc-mul 0 c in
    let all : (a + b) * L ≡ a * L + b * L = add-mul a b L in
    omega (arith, one, e, all, p, q)

-- ±a / c + ±b / c, as it is rounded, where the one with a has m for its digits
abbrev L : ℕ
L = 2 ^ low binary64

some_digits : (k : ℕ) → eqb k 0 ≡ false → 0 < k
some_digits k e = go k (eqb-false k 0 e)
  where
    go : (k : ℕ) → (k ≡ 0 → ⊥) → 0 < k
    go zero h = absurd (h refl)
    go (suc k) h = omega arith

module _ (a b c A B m : ℕ) (C : 0 < c) (p : a * L ≡ A * c) (q : b * L ≡ B * c) (some : 0 < m → 0 < A) where
  by_signs : (s t : Bool) → (s && eqb m 0) ≡ false → is_minus_zero (cond (beq s t) (round binary64 s (a + b) c) (cond (ltb a b) (round binary64 t (b - a) c) (round binary64 (s && ltb b a) (a - b) c))) ≡ false
  by_signs false false h = round_not (a + b) c
  by_signs true true h = round_some true (a + b) c C (both_some a b A B c L p q (some (some_digits m h)))
  by_signs false true h = go (ltb a b) refl
    where
      go : (x : Bool) → ltb a b ≡ x → is_minus_zero (cond x (round binary64 true (b - a) c) (round binary64 false (a - b) c)) ≡ false
      go true z = round_some true (b - a) c C (differ_some a b A B c L p q (pow_pos (low binary64)) (ltb-true a b z))
      go false z = round_not (a - b) c
  by_signs true false h = go (ltb a b) (ltb b a) refl
    where
      go : (x y : Bool) → ltb b a ≡ y → is_minus_zero (cond x (round binary64 false (b - a) c) (round binary64 y (a - b) c)) ≡ false
      go true y z = round_not (b - a) c
      go false true z = round_some true (a - b) c C (differ_some b a B A c L q p (pow_pos (low binary64)) (ltb-true b a z))
      go false false z = round_not (a - b) c

-- a sum is −0.0 only if both terms are
pub sum_not : (x y : Float) → T (fits binary64 x) → T (fits binary64 y) → is_minus_zero x ≡ false → is_minus_zero (add binary64 x y) ≡ false
unfolding add sum
sum_not nan y fx fy h = refl
sum_not (inf s) nan fx fy h = refl
sum_not (inf s) (inf t) fx fy h = go (beq s t)
  where
    go : (b : Bool) → is_minus_zero (cond b (inf s) nan) ≡ false
    go true = refl
    go false = refl
sum_not (inf s) (fin t n d) fx fy h = refl
sum_not (fin s m e) nan fx fy h = refl
sum_not (fin s m e) (inf t) fx fy h = refl
sum_not (fin s m e) (fin t n d) fx fy h =
    let A = in_Units s m e fx in
    let B = in_Units t n d fy in
    by_signs (m * up e * down d) (n * up d * down e) (down e * down d) A.0 B.0 m (mul-pos (down_pos e) (down_pos d)) (over m e A.0 (down d) A.1)
    (over n d B.0 (down e) B.1 ∙ ap (λ k. B.0 * k) (mul_comm (down d) (down e))) (some_in_Units m e A.0 A.1) s t h

-- ---- a value that is not above zero
above_none : (k : ℕ) → 0 < suc k
above_none k = omega arith

one_way : (e : ℤ) → T (eqb (up e * down e) 1) → e ≡ pos 0
one_way (pos zero) t = refl
one_way (pos (suc k)) t = let g : 1 < 2 ^ suc k = pow-lt (above_none k) in let e = eqb→eq (2 ^ suc k * 1) 1 t in absurd (omega (arith, g, e))
one_way (negsuc k) t = let g : 1 < 2 ^ suc k = pow-lt (above_none k) in let e = eqb→eq (1 * 2 ^ suc k) 1 t in absurd (omega (arith, g, e))

pub not_above : (x : Float) → T (fits binary64 x) → is_plus x ≡ true → finite x ≡ true → lt nought x ≡ false → x ≡ nought
unfolding fits lt of_bits
not_above nan f p h l = absurd (false≢true h)
not_above (inf s) f p h l = absurd (false≢true h)
not_above (fin true m e) f p h l = absurd (false≢true p)
not_above (fin false zero e) f p h l = ap (fin false 0) (one_way e f)
not_above (fin false (suc m) e) f p h l = absurd (true≢false (sym (lt-ltb (0 * 1 * down e) (suc m * up e * 1) (subst (λ k. k < suc m * up e * 1) (sym (nothing (down e))) (some (suc m * up e) (mul-pos (above_none m) (up_pos e))))) ∙ l))
  where
    nothing : (d : ℕ) → 0 * 1 * d ≡ 0
    nothing d = zero-mul d

    some : (n : ℕ) → 0 < n → 0 < n * 1
    some n h = omega (arith, h)

-- ---- a sum with its sign turned where it is below zero, and a product of two such
pub turned_plus : (x : Float) → is_minus_zero x ≡ false → is_plus (cond (lt x nought) (neg x) x) ≡ true
unfolding lt neg of_bits
turned_plus nan h = refl
turned_plus (inf true) h = refl
turned_plus (inf false) h = refl
turned_plus (fin false m e) h = rw (zero-mul (down e), leb-suc-zero (m * up e * 1)) refl
turned_plus (fin true m e) h = rw (lt-ltb 0 (m * up e * 1 + 0 * down e) (some (m * up e) (0 * down e) (mul-pos (some_digits m h) (up_pos e)))) refl
  where
    some : (n k : ℕ) → 0 < n → 0 < n * 1 + k
    some n k h = omega (arith, h)

either : (b : Bool) → is_plus (cond b nan (inf false)) ≡ true
either true = refl
either false = refl

pub product_plus : (x y : Float) → is_plus x ≡ true → is_plus y ≡ true → is_plus (mul binary64 x y) ≡ true
unfolding mul
product_plus nan y h k = refl
product_plus (inf true) y h k = absurd (false≢true h)
product_plus (inf false) nan h k = refl
product_plus (inf false) (inf true) h k = absurd (false≢true k)
product_plus (inf false) (inf false) h k = refl
product_plus (inf false) (fin true n d) h k = absurd (false≢true k)
product_plus (inf false) (fin false n d) h k = either (eqb n 0)
product_plus (fin true m e) y h k = absurd (false≢true h)
product_plus (fin false m e) nan h k = refl
product_plus (fin false m e) (inf true) h k = absurd (false≢true k)
product_plus (fin false m e) (inf false) h k = either (eqb m 0)
product_plus (fin false m e) (fin true n d) h k = absurd (false≢true k)
product_plus (fin false m e) (fin false n d) h k = round_plus (m * up e * (n * up d)) (down e * down d)
