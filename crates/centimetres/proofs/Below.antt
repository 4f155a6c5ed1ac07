-- Of values below a power of two in size, sums, differences and products are finite and below a power of two again, and so is a quotient by a value of size one or more. Assumes nothing.
use Prim.Native.Nat.{ℕ, suc, ◌+◌, ◌-◌, ◌*◌, ◌/◌, ◌%◌, ◌^◌, ◌<◌, ◌≤◌, compare}
use mathlib.Core.Path.{◌≡◌, refl, sym, ap, subst, ◌∙◌}
use mathlib.Core.Bool.{Bool, true, false, ◌&&◌, cond, beq}
use native.Mathlib.Omega.{arith}
use native.Mathlib.Nat.{mul_assoc, mul_comm, mul_right_comm, mul-mul-mul_comm, mul-pos, le_trans, le_of_eq, le_of_lt, lt_of_le_of_lt, lt_of_lt_of_le, mul-le-mul_left, mul-le-mul_right, mul-lt-mul_of_pos_right, lt_of_mul-lt-mul_right, pow-suc, sub-le, div-lt_iff_lt-mul, div-div-eq-div-mul, div-mul-le_self}
use lib.Dec.{ltb}
use lib.Pow.{pow_pos, pow_mono, pow-add}
use lib.Ieee.{Float, nan, inf, fin, Format, prec, emax, low, up, down, unlike, size, nearest, units, round, sum, add, sub, mul, div, neg}
use lib.Ieee.Digits.{size-le}
use lib.Ieee.Fits.{down_pos, nearest-le, round_is}
use lib.Ieee.Exact.{HasValue, units_val}
use lib.Ieee.Positive.{first_pos}
use borrow.Author.Tests.{ne_eqb}
use Rattle.floats.specs.Finite.{finite}

-- a number, and less than 2 ^ j in size
abbrev pub Below : ℕ → Float → Type 0
Below j nan = ⊥
Below j (inf s) = ⊥
Below j (fin s m e) = m * up e < down e * 2 ^ j

-- a number of size one or more
abbrev pub OneOrMore : Float → Type 0
OneOrMore nan = ⊥
OneOrMore (inf s) = ⊥
OneOrMore (fin s m e) = down e ≤ m * up e

pub Below-finite : (j : ℕ) (x : Float) → Below j x → finite x ≡ true
Below-finite j nan h = absurd h
Below-finite j (inf s) h = absurd h
Below-finite j (fin s m e) h = refl

pub below_more : (i j : ℕ) (x : Float) → i ≤ j → Below i x → Below j x
below_more i j nan l h = h
below_more i j (inf s) l h = h
below_more i j (fin s m e) l h = lt_of_lt_of_le h (mul-le-mul_left (down e) (pow_mono l))

-- ---- rounding
-- by its size in units of the format's smallest value
in_units : (f : Format) (x : Float) (s : Bool) (h j : ℕ) → HasValue x s h (2 ^ low f) → h < 2 ^ (j + low f) → Below j x
in_units f nan s h j v l = v
in_units f (inf t) s h j v l = v
in_units f (fin t m e) s h j v l =
    let L = low f in
    lt_of_mul-lt-mul_right (2 ^ L)
    (lt_of_le_of_lt (le_of_eq v.1)
    (lt_of_lt_of_le (mul-lt-mul_of_pos_right l (down_pos e))
    (le_of_eq (ap (◌* down e) (pow-add 2 j L) ∙ (mul_right_comm (2 ^ j) (2 ^ L) (down e) ∙ ap (◌* 2 ^ L) (mul_comm (2 ^ j) (down e)))))))

-- what is kept of w digits, of which k are dropped, is at most one unit of 2 ^ k above w
kept_under : (q w k p : ℕ) → q ≤ suc (w / 2 ^ k) → w < p → 2 ^ k ≤ p → q * 2 ^ k < p * 2
kept_under q w k p h l b =
    let a : q * 2 ^ k ≤ suc (w / 2 ^ k) * 2 ^ k = mul-le-mul_right (2 ^ k) h in
    let c : suc (w / 2 ^ k) * 2 ^ k ≡ w / 2 ^ k * 2 ^ k + 2 ^ k = one_more (w / 2 ^ k) (2 ^ k) in
    let d = div-mul-le_self w (2 ^ k) in
    omega arith
  where
    one_more : (a b : ℕ) → suc a * b ≡ a * b + b
    one_more a b = omega arith

fits : (j l m : ℕ) → j ≤ m → suc j + l ≤ l + suc m
fits j l m h = omega arith

shift : (j l : ℕ) → suc (j + l) ≡ suc j + l
shift j l = omega arith

round-Below : (f : Format) (s : Bool) (n d j : ℕ) → 0 < d → n < d * 2 ^ j → j ≤ emax f → Below (suc j) (round f s n d)
round-Below f s n d j D h top =
    let L = low f in
    let N = n * 2 ^ L in
    let w = N / d in
    let k = size w - prec f in
    let u = d * 2 ^ k in
    let o = compare (N % u * 2) u in
    let q = nearest (N / u) o in
    let under : N < 2 ^ (j + L) * d = lt_of_lt_of_le (mul-lt-mul_of_pos_right h (pow_pos L)) (le_of_eq (mul_assoc d (2 ^ j) (2 ^ L) ∙ (ap (d *◌) (sym (pow-add 2 j L)) ∙ mul_comm d (2 ^ (j + L))))) in
    let w< : w < 2 ^ (j + L) = (div-lt_iff_lt-mul D).1 under in
    let k≤ : k ≤ j + L = le_trans (sub-le (size w) (prec f)) (size-le w (j + L) w<) in
    let q≤ : q ≤ suc (w / 2 ^ k) = subst (λ x. q ≤ suc x) (sym (div-div-eq-div-mul N d (2 ^ k))) (nearest-le (N / u) o) in
    let b : q * 2 ^ k < 2 ^ (suc j + L) = lt_of_lt_of_le (kept_under q w k (2 ^ (j + L)) q≤ w< (pow_mono k≤)) (le_of_eq (sym (pow-suc 2 (j + L)) ∙ ap (2 ^◌) (shift j L))) in
    subst (Below (suc j)) (sym (round_is f s n d))
    (in_units f (units f s q k) s (q * 2 ^ k) (suc j) (units_val f s q k (lt_of_lt_of_le b (pow_mono (fits j L (emax f) top)))) b)

-- ---- the operations
-- a product of two bounds
times : (a b c d : ℕ) → a < c → b < d → a * b < c * d
times a b c d h k = lt_of_le_of_lt (mul-le-mul_left a (le_of_lt k)) (mul-lt-mul_of_pos_right h (omega arith))

-- one of two sizes, over a common denominator
over : (m e g p : ℕ) → 0 < g → m < e * p → m * g < e * g * p
over m e g p G h = lt_of_lt_of_le (mul-lt-mul_of_pos_right h G) (le_of_eq (mul_right_comm e p g))

sum_below : (f : Format) (s : Bool) (a : ℕ) (t : Bool) (b c j : ℕ) → 0 < c → a < c * 2 ^ j → b < c * 2 ^ j → suc j ≤ emax f → Below (suc (suc j)) (sum f s a t b c)
unfolding sum
sum_below f s a t b c j C h k top = go (beq s t) (ltb a b)
  where
    rounded : (r : Bool) (n : ℕ) → n ≤ a + b → Below (suc (suc j)) (round f r n c)
    rounded r n l =
        let e : c * 2 ^ suc j ≡ c * 2 ^ j * 2 = ap (c *◌) (pow-suc 2 j) ∙ sym (mul_assoc c (2 ^ j) 2) in
        round-Below f r n c (suc j) C (omega arith) top

    go : (x y : Bool) → Below (suc (suc j)) (cond x (round f s (a + b) c) (cond y (round f t (b - a) c) (round f (s && ltb b a) (a - b) c)))
    go true y = rounded s (a + b) (omega arith)
    go false true = rounded t (b - a) (omega arith)
    go false false = rounded (s && ltb b a) (a - b) (omega arith)

module _ (f : Format) where
  pub add-Below : (x y : Float) (j : ℕ) → Below j x → Below j y → suc j ≤ emax f → Below (suc (suc j)) (add f x y)
  unfolding add
  add-Below nan y j h k top = absurd h
  add-Below (inf s) y j h k top = absurd h
  add-Below (fin s m e) nan j h k top = absurd k
  add-Below (fin s m e) (inf t) j h k top = absurd k
  add-Below (fin s m e) (fin t n g) j h k top =
      sum_below f s (m * up e * down g) t (n * up g * down e) (down e * down g) j (mul-pos (down_pos e) (down_pos g)) (over (m * up e) (down e) (down g) (2 ^ j) (down_pos g) h)
      (lt_of_lt_of_le (over (n * up g) (down g) (down e) (2 ^ j) (down_pos e) k) (le_of_eq (ap (◌* 2 ^ j) (mul_comm (down g) (down e))))) top

  pub neg-Below : (x : Float) (j : ℕ) → Below j x → Below j (neg x)
  unfolding neg
  neg-Below nan j h = h
  neg-Below (inf s) j h = h
  neg-Below (fin s m e) j h = h

  pub sub-Below : (x y : Float) (j : ℕ) → Below j x → Below j y → suc j ≤ emax f → Below (suc (suc j)) (sub f x y)
  unfolding sub
  sub-Below x y j h k top = add-Below x (neg y) j h (neg-Below y j k) top

  pub mul-Below : (x y : Float) (i j : ℕ) → Below i x → Below j y → i + j ≤ emax f → Below (suc (i + j)) (mul f x y)
  unfolding mul
  mul-Below nan y i j h k top = absurd h
  mul-Below (inf s) y i j h k top = absurd h
  mul-Below (fin s m e) nan i j h k top = absurd k
  mul-Below (fin s m e) (inf t) i j h k top = absurd k
  mul-Below (fin s m e) (fin t n g) i j h k top =
      round-Below f (unlike s t) (m * up e * (n * up g)) (down e * down g) (i + j) (mul-pos (down_pos e) (down_pos g))
      (lt_of_lt_of_le (times (m * up e) (n * up g) (down e * 2 ^ i) (down g * 2 ^ j) h k) (le_of_eq (mul-mul-mul_comm (down e) (2 ^ i) (down g) (2 ^ j) ∙ ap (down e * down g *◌) (sym (pow-add 2 i j))))) top

  pub div_below : (x y : Float) (j : ℕ) → Below j x → OneOrMore y → j ≤ emax f → Below (suc j) (div f x y)
  unfolding div
  div_below nan y j h k top = absurd h
  div_below (inf s) y j h k top = absurd h
  div_below (fin s m e) nan j h k top = absurd k
  div_below (fin s m e) (inf t) j h k top = absurd k
  div_below (fin s m e) (fin t n g) j h k top =
      let N : 0 < n * up g = lt_of_lt_of_le (down_pos g) k in
      rw (ne_eqb n 0 (above n (first_pos n (up g) N)))
      (round-Below f (unlike s t) (m * up e * down g) (n * up g * down e) j (mul-pos N (down_pos e))
      (lt_of_lt_of_le (over (m * up e) (down e) (down g) (2 ^ j) (down_pos g) h) (mul-le-mul_right (2 ^ j) (le_trans (mul-le-mul_left (down e) k) (le_of_eq (mul_comm (down e) (n * up g)))))) top)
    where
      above : (n : ℕ) → 0 < n → n ≡ 0 → ⊥
      above n h e = omega arith
