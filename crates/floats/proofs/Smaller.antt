-- Finite values are in the order of the numbers that they stand for: what is below something is below all that is not below that, and is not above it. Assumes nothing.
use Prim.Native.Nat.{ℕ, ◌+◌, ◌*◌, ◌<◌}
use mathlib.Core.Path.{◌≡◌, refl, sym, ap, ap₂, ◌∙◌}
use mathlib.Core.Bool.{Bool, true, false, true≢false, false≢true}
use native.Mathlib.Omega.{arith}
use native.Mathlib.Nat.{zero-mul, add-mul, mul_right_comm, mul-le-mul_right, mul-lt-mul_of_pos_right}
use lib.Dec.{ltb}
use lib.IntN.{ℤ}
use lib.Ieee.{Float, nan, inf, fin, up, down, below, lt}
use lib.Ieee.Fits.{down_pos}
use borrow.Author.Tests.{ltb-true, ltb-false, lt-ltb, le-ltb}
use Rattle.floats.specs.Finite.{finite}

-- ---- over a common denominator
ltb_scaled : (a b k : ℕ) → 0 < k → ltb (a * k) (b * k) ≡ ltb a b
ltb_scaled a b k h = go (ltb a b) refl
  where
    go : (t : Bool) → ltb a b ≡ t → ltb (a * k) (b * k) ≡ t
    go true e = lt-ltb (a * k) (b * k) (mul-lt-mul_of_pos_right (ltb-true a b e) h)
    go false e = le-ltb (a * k) (b * k) (mul-le-mul_right k (ltb-false a b e))

some_scaled : (a b k : ℕ) → 0 < k → ltb 0 (a * k + b * k) ≡ ltb 0 (a + b)
some_scaled a b k h = ap₂ ltb (sym (zero-mul k)) (sym (add-mul a b k)) ∙ ltb_scaled 0 (a + b) k h

below_scaled : (s : Bool) (a : ℕ) (t : Bool) (b k : ℕ) → 0 < k → below s (a * k) t (b * k) ≡ below s a t b
below_scaled false a false b k h = ltb_scaled a b k h
below_scaled false a true b k h = refl
below_scaled true a false b k h = some_scaled a b k h
below_scaled true a true b k h = ltb_scaled b a k h

-- ---- numbers with a sign
below_through : (s : Bool) (a : ℕ) (t : Bool) (b : ℕ) (r : Bool) (c : ℕ) → below s a t b ≡ true → below r c t b ≡ false → below s a r c ≡ true
below_through false a false b false c h k = let p = ltb-true a b h in let q = ltb-false c b k in lt-ltb a c (omega (arith, p, q))
below_through false a false b true c h k = let p = ltb-true a b h in let q = ltb-false 0 (c + b) k in absurd (omega (arith, p, q))
below_through false a true b r c h k = absurd (false≢true h)
below_through true a false b false c h k = let p = ltb-true 0 (a + b) h in let q = ltb-false c b k in lt-ltb 0 (a + c) (omega (arith, p, q))
below_through true a false b true c h k = let p = ltb-true 0 (a + b) h in let q = ltb-false 0 (c + b) k in lt-ltb c a (omega (arith, p, q))
below_through true a true b false c h k = let p = ltb-true b a h in lt-ltb 0 (a + c) (omega (arith, p))
below_through true a true b true c h k = let p = ltb-true b a h in let q = ltb-false b c k in lt-ltb c a (omega (arith, p, q))

below_after : (s : Bool) (a : ℕ) (t : Bool) (b : ℕ) (r : Bool) (c : ℕ) → below t b s a ≡ false → below t b r c ≡ true → below s a r c ≡ true
below_after false a false b false c h k = let p = ltb-false b a h in let q = ltb-true b c k in lt-ltb a c (omega (arith, p, q))
below_after false a true b false c h k = let p = ltb-false 0 (b + a) h in let q = ltb-true 0 (b + c) k in lt-ltb a c (omega (arith, p, q))
below_after false a false b true c h k = absurd (false≢true k)
below_after false a true b true c h k = let p = ltb-false 0 (b + a) h in let q = ltb-true c b k in absurd (omega (arith, p, q))
below_after true a false b false c h k = let q = ltb-true b c k in lt-ltb 0 (a + c) (omega (arith, q))
below_after true a true b false c h k = let p = ltb-false a b h in let q = ltb-true 0 (b + c) k in lt-ltb 0 (a + c) (omega (arith, p, q))
below_after true a false b true c h k = absurd (false≢true k)
below_after true a true b true c h k = let p = ltb-false a b h in let q = ltb-true c b k in lt-ltb c a (omega (arith, p, q))

below_not_back : (s : Bool) (a : ℕ) (t : Bool) (b : ℕ) → below s a t b ≡ true → below t b s a ≡ false
below_not_back false a false b h = let p = ltb-true a b h in le-ltb b a (omega (arith, p))
below_not_back false a true b h = absurd (false≢true h)
below_not_back true a false b h = refl
below_not_back true a true b h = let p = ltb-true b a h in le-ltb a b (omega (arith, p))

-- ---- finite values
over : (s : Bool) (m : ℕ) (e : ℤ) (t : Bool) (n : ℕ) (d : ℤ) (k : ℕ) → 0 < k → lt (fin s m e) (fin t n d) ≡ below s (m * up e * down d * k) t (n * up d * down e * k)
unfolding lt
over s m e t n d k h = sym (below_scaled s (m * up e * down d) t (n * up d * down e) k h)

-- three finite values over one denominator: signs and sizes by which all of their comparisons go
record Over (x y z : Float) : Type 0 where
  s : Bool
  a : ℕ
  t : Bool
  b : ℕ
  r : Bool
  c : ℕ
  xy : lt x y ≡ below s a t b
  yx : lt y x ≡ below t b s a
  yz : lt y z ≡ below t b r c
  zy : lt z y ≡ below r c t b
  xz : lt x z ≡ below s a r c

three : (x y z : Float) → finite x ≡ true → finite y ≡ true → finite z ≡ true → Over x y z
three nan y z fx fy fz = absurd (false≢true fx)
three (inf s) y z fx fy fz = absurd (false≢true fx)
three (fin s m e) nan z fx fy fz = absurd (false≢true fy)
three (fin s m e) (inf t) z fx fy fz = absurd (false≢true fy)
three (fin s m e) (fin t n d) nan fx fy fz = absurd (false≢true fz)
three (fin s m e) (fin t n d) (inf r) fx fy fz = absurd (false≢true fz)
three (fin s m e) (fin t n d) (fin r o c) fx fy fz =
    let A = m * up e * down d * down c in
    let B = n * up d * down e * down c in
    let C = o * up c * down d * down e in
    let mid = mul_right_comm (n * up d) (down c) (down e) in
    record {
      s = s;
      a = A;
      t = t;
      b = B;
      r = r;
      c = C;
      xy = over s m e t n d (down c) (down_pos c);
      yx = over t n d s m e (down c) (down_pos c);
      yz = over t n d r o c (down e) (down_pos e) ∙ ap (λ x. below t x r C) mid;
      zy = over r o c t n d (down e) (down_pos e) ∙ ap (below r C t) mid;
      xz = over s m e r o c (down d) (down_pos d) ∙ ap₂ (λ x y. below s x r y) (mul_right_comm (m * up e) (down c) (down d)) (mul_right_comm (o * up c) (down e) (down d));
    }

-- x below y, and z not below y: x below z
pub lt_through : (x y z : Float) → finite x ≡ true → finite y ≡ true → finite z ≡ true → lt x y ≡ true → lt z y ≡ false → lt x z ≡ true
lt_through x y z fx fy fz h k = let v = three x y z fx fy fz in v.xz ∙ below_through v.s v.a v.t v.b v.r v.c (sym v.xy ∙ h) (sym v.zy ∙ k)

-- y not below x, and y below z: x below z
pub lt_after : (x y z : Float) → finite x ≡ true → finite y ≡ true → finite z ≡ true → lt y x ≡ false → lt y z ≡ true → lt x z ≡ true
lt_after x y z fx fy fz h k = let v = three x y z fx fy fz in v.xz ∙ below_after v.s v.a v.t v.b v.r v.c (sym v.yx ∙ h) (sym v.yz ∙ k)

-- what is below something is not above it
pub lt_not_back : (x y : Float) → lt x y ≡ true → lt y x ≡ false
unfolding lt
lt_not_back nan y h = absurd (false≢true h)
lt_not_back (inf s) nan h = absurd (false≢true h)
lt_not_back (inf false) (inf t) h = absurd (false≢true h)
lt_not_back (inf true) (inf false) h = refl
lt_not_back (inf true) (inf true) h = absurd (false≢true h)
lt_not_back (inf true) (fin t n d) h = refl
lt_not_back (inf false) (fin t n d) h = absurd (false≢true h)
lt_not_back (fin s m e) nan h = absurd (false≢true h)
lt_not_back (fin s m e) (inf false) h = refl
lt_not_back (fin s m e) (inf true) h = absurd (false≢true h)
lt_not_back (fin s m e) (fin t n d) h = below_not_back s (m * up e * down d) t (n * up d * down e) h

-- nothing is below itself
pub lt_not_self : (x : Float) → lt x x ≡ false
lt_not_self x = go (lt x x) refl
  where
    go : (b : Bool) → lt x x ≡ b → lt x x ≡ false
    go true e = lt_not_back x x e
    go false e = e

-- x not below y, and y not below z: x not below z
pub not_below_through : (x y z : Float) → finite x ≡ true → finite y ≡ true → finite z ≡ true → lt x y ≡ false → lt y z ≡ false → lt x z ≡ false
not_below_through x y z fx fy fz h k = go (lt x z) refl
  where
    go : (b : Bool) → lt x z ≡ b → lt x z ≡ false
    go true e = absurd (true≢false (sym (lt_through x z y fx fz fy e k) ∙ h))
    go false e = e
