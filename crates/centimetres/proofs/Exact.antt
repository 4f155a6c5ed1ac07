-- A float that is a whole number, whatever the sign of a zero. As long as they stay within the format's digits, sums, differences and products of such are the exact ones; and
-- its size is the whole number's. Assumes nothing.
use Prim.Native.Nat.{ℕ, zero, suc, ◌+◌, ◌-◌, ◌*◌, ◌^◌, ◌<◌, ◌≤◌}
use mathlib.Core.Path.{◌≡◌, refl, sym, ap, ap₂, subst, ◌∙◌}
use mathlib.Core.Bool.{Bool, true, false, not, ◌&&◌, cond}
use native.Mathlib.Omega.{arith}
use native.Mathlib.Nat.{add-zero, sub-zero, zero-mul, mul-zero, mul-one, mul_comm, mul_assoc, mul-pos, mul-sub, add-mul, mul-mul-mul_comm, zero-lt-suc, le_of_lt, lt_of_le_of_lt, lt_of_lt_of_le, le_of_eq, le_trans, mul-le-mul_right, mul-lt-mul_of_pos_right}
use lib.Dec.{ltb, leb-suc-zero}
use lib.IntN.{ℤ, pos, negsuc, neg_ℤ, nat_abs, ◌+ℤ◌, ◌-ℤ◌, ◌*ℤ◌, neg_ℤ-+ℤ, +ℤ_comm}
use lib.Ieee.{Float, nan, inf, fin, Format, prec, up, down, unlike, round, sum, add, sub, mul, neg, of_int}
use lib.Ieee.Fits.{down_pos}
use lib.Ieee.Exact.{HasValue}
use lib.Ieee.Scale.{round_same}
use lib.Ieee.Back.{round_whole}
use borrow.Author.Tests.{ltb-true, ltb-false, lt-ltb, le-ltb}
use Rattle.floats.specs.Finite.{finite}
use Rattle.centimetres.proofs.Below.{Below, OneOrMore}

-- ---- a sign and a size
abbrev pub signed : Bool → ℕ → ℤ
signed false n = pos n
signed true n = neg_ℤ (pos n)

pub signed_abs : (s : Bool) (n : ℕ) → nat_abs (signed s n) ≡ n
signed_abs false n = refl
signed_abs true zero = refl
signed_abs true (suc n) = refl

signed_neg : (s : Bool) (n : ℕ) → signed (not s) n ≡ neg_ℤ (signed s n)
signed_neg false n = refl
signed_neg true zero = refl
signed_neg true (suc n) = refl

signed_mul : (s t : Bool) (a b : ℕ) → signed (unlike s t) (a * b) ≡ signed s a *ℤ signed t b
signed_mul false false a b = refl
signed_mul false true a zero = rw mul-zero refl
signed_mul false true a (suc b) = refl
signed_mul true false zero b = rw zero-mul refl
signed_mul true false (suc a) b = refl
signed_mul true true zero zero = refl
signed_mul true true zero (suc b) = rw zero-mul refl
signed_mul true true (suc a) zero = rw mul-zero refl
signed_mul true true (suc a) (suc b) = refl

-- x is the whole number z
pub record Exact (x : Float) (z : ℤ) : Type 0 where
  pub sign : Bool
  pub size : ℕ
  pub value : HasValue x sign size 1
  pub number : signed sign size ≡ z

-- what is rounded to a whole number that the format has
rounded : (f : Format) (x : Float) (s : Bool) (n : ℕ) (z : ℤ) → x ≡ round f s n 1 → signed s n ≡ z → nat_abs z ≤ 2 ^ prec f → Exact x z
rounded f x s n z e h l =
    record { sign = s; size = n; value = subst (λ y. HasValue y s n 1) (sym e) (round_whole f s n (subst (λ m. m ≤ 2 ^ prec f) (ap nat_abs (sym h) ∙ signed_abs s n) l)); number = h }

pub int_Exact : (f : Format) (z : ℤ) → nat_abs z ≤ 2 ^ prec f → Exact (of_int f z) z
unfolding of_int
int_Exact f (pos n) l = rounded f (round f false n 1) false n (pos n) refl refl l
int_Exact f (negsuc n) l = rounded f (round f true (suc n) 1) true (suc n) (negsuc n) refl refl l

-- ---- the product
mul-round : (f : Format) (x y : Float) (s t : Bool) (a b : ℕ) → HasValue x s a 1 → HasValue y t b 1 → mul f x y ≡ round f (unlike s t) (a * b) 1
unfolding mul
mul-round f nan y s t a b h k = absurd h
mul-round f (inf u) y s t a b h k = absurd h
mul-round f (fin u m e) nan s t a b h k = absurd k
mul-round f (fin u m e) (inf v) s t a b h k = absurd k
mul-round f (fin u m e) (fin v n g) s t a b h k =
    round_same f (unlike u v) (m * up e * (n * up g)) (down e * down g) (a * b) 1 (mul-pos (down_pos e) (down_pos g)) (zero-lt-suc 0)
    (mul-mul-mul_comm (m * up e) (n * up g) 1 1 ∙ (ap₂ ◌*◌ h.1 k.1 ∙ mul-mul-mul_comm a (down e) b (down g)))
    ∙ ap₂ (λ p q. round f (unlike p q) (a * b) 1) h.0 k.0

-- ---- the sum
-- a and b in other units
ltb_scale : (a b k : ℕ) → 0 < k → ltb (a * k) (b * k) ≡ ltb a b
ltb_scale a b k K = go (ltb a b) refl
  where
    go : (t : Bool) → ltb a b ≡ t → ltb (a * k) (b * k) ≡ t
    go true e = lt-ltb (a * k) (b * k) (mul-lt-mul_of_pos_right (ltb-true a b e) K)
    go false e = le-ltb (a * k) (b * k) (mul-le-mul_right k (ltb-false a b e))

sub-mul : (a b k : ℕ) → (a - b) * k ≡ a * k - b * k
sub-mul a b k = mul_comm (a - b) k ∙ (mul-sub k a b ∙ ap₂ ◌-◌ (mul_comm k a) (mul_comm k b))

sum_scale : (f : Format) (s : Bool) (a : ℕ) (t : Bool) (b k : ℕ) → 0 < k → sum f s (a * k) t (b * k) k ≡ sum f s a t b 1
unfolding sum
sum_scale f s a t b k K =
    rw (ltb_scale a b k K, ltb_scale b a k K, ← add-mul a b k, ← sub-mul b a k, ← sub-mul a b k, scaled s (a + b), scaled t (b - a), scaled (s && ltb b a) (a - b)) refl
  where
    scaled : (r : Bool) (n : ℕ) → round f r (n * k) k ≡ round f r n 1
    scaled r n = round_same f r (n * k) k n 1 K (zero-lt-suc 0) (mul-one (n * k))

add-sum : (f : Format) (x y : Float) (s t : Bool) (a b : ℕ) → HasValue x s a 1 → HasValue y t b 1 → add f x y ≡ sum f s a t b 1
unfolding add
add-sum f nan y s t a b h k = absurd h
add-sum f (inf u) y s t a b h k = absurd h
add-sum f (fin u m e) nan s t a b h k = absurd k
add-sum f (fin u m e) (inf v) s t a b h k = absurd k
add-sum f (fin u m e) (fin v n g) s t a b h k =
    ap₂ (λ p q. sum f u p v q (down e * down g)) (over (m * up e) (down e) (down g) a h.1) (over (n * up g) (down g) (down e) b k.1 ∙ ap (b *◌) (mul_comm (down g) (down e)))
    ∙ (sum_scale f u a v b (down e * down g) (mul-pos (down_pos e) (down_pos g)) ∙ ap₂ (λ p q. sum f p a q b 1) h.0 k.0)
  where
    over : (m e g a : ℕ) → m * 1 ≡ a * e → m * g ≡ a * (e * g)
    over m e g a h = ap (◌* g) (sym (mul-one m) ∙ h) ∙ mul_assoc a e g

-- a difference of sizes
less : (a b : ℕ) → pos a +ℤ neg_ℤ (pos b) ≡ cond (ltb a b) (neg_ℤ (pos (b - a))) (pos (a - b))
less a zero = rw (add-zero, leb-suc-zero, sub-zero) refl
less a (suc b) = go (ltb a (suc b)) refl
  where
    one_step : (a b : ℕ) → a < b → b - a ≡ suc (b - suc a)
    one_step a b h = omega arith

    go : (t : Bool) → ltb a (suc b) ≡ t → cond t (negsuc (suc b - suc a)) (pos (a - suc b)) ≡ cond t (neg_ℤ (pos (suc b - a))) (pos (a - suc b))
    go true e = rw (one_step a (suc b) (ltb-true a (suc b) e)) refl
    go false e = refl

-- the sum is rounded from its own sign and size
abbrev Rounds : Format → Float → ℤ → Type 0
Rounds f x z = (r : Bool) × (n : ℕ) × (x ≡ round f r n 1) × (signed r n ≡ z)

sum_round : (f : Format) (s : Bool) (a : ℕ) (t : Bool) (b : ℕ) → Rounds f (sum f s a t b 1) (signed s a +ℤ signed t b)
unfolding sum
sum_round f false a false b = (false, a + b, refl, refl)
sum_round f true a true b = (true, a + b, refl, neg_ℤ-+ℤ (pos a) (pos b))
sum_round f false a true b = go (ltb a b) (less a b)
  where
    go : (u : Bool) → pos a +ℤ neg_ℤ (pos b) ≡ cond u (neg_ℤ (pos (b - a))) (pos (a - b)) → Rounds f (cond u (round f true (b - a) 1) (round f false (a - b) 1)) (pos a +ℤ neg_ℤ (pos b))
    go true e = (true, b - a, refl, sym e)
    go false e = (false, a - b, refl, sym e)
sum_round f true a false b = go (ltb a b) refl (ltb b a) refl (+ℤ_comm (neg_ℤ (pos a)) (pos b) ∙ less b a)
  where
    level : (a b : ℕ) → a ≤ b → b ≤ a → a - b ≡ b - a
    level a b h k = omega arith

    go : (u : Bool) → ltb a b ≡ u → (v : Bool) → ltb b a ≡ v → neg_ℤ (pos a) +ℤ pos b ≡ cond (ltb b a) (neg_ℤ (pos (a - b))) (pos (b - a)) → Rounds f (cond u (round f false (b - a) 1) (round f (ltb b a) (a - b) 1)) (neg_ℤ (pos a) +ℤ pos b)
    go true p v q e = (false, b - a, refl, sym (e ∙ rw (le-ltb b a (le_of_lt (ltb-true a b p))) refl))
    go false p true q e = (true, a - b, rw q refl, sym (e ∙ rw q refl))
    go false p false q e = (false, a - b, rw q refl, sym (e ∙ rw q (ap pos (level b a (ltb-false a b p) (ltb-false b a q)))))

neg_value : (x : Float) (s : Bool) (n : ℕ) → HasValue x s n 1 → HasValue (neg x) (not s) n 1
unfolding neg
neg_value nan s n h = h
neg_value (inf t) s n h = h
neg_value (fin t m e) s n h = (ap not h.0, h.1)

pub neg-Exact : {x : Float} {a : ℤ} → Exact x a → Exact (neg x) (neg_ℤ a)
neg-Exact {x} h = record { sign = not h.sign; size = h.size; value = neg_value x h.sign h.size h.value; number = signed_neg h.sign h.size ∙ ap neg_ℤ h.number }

module _ (f : Format) {x y : Float} {a b : ℤ} (h : Exact x a) (k : Exact y b) where
  pub mul-Exact : nat_abs (a *ℤ b) ≤ 2 ^ prec f → Exact (mul f x y) (a *ℤ b)
  mul-Exact l =
      rounded f (mul f x y) (unlike h.sign k.sign) (h.size * k.size) (a *ℤ b) (mul-round f x y h.sign k.sign h.size k.size h.value k.value)
      (signed_mul h.sign k.sign h.size k.size ∙ ap₂ ◌*ℤ◌ h.number k.number) l

  pub add-Exact : nat_abs (a +ℤ b) ≤ 2 ^ prec f → Exact (add f x y) (a +ℤ b)
  add-Exact l =
      let r = sum_round f h.sign h.size k.sign k.size in
      rounded f (add f x y) r.0 r.1 (a +ℤ b) (add-sum f x y h.sign k.sign h.size k.size h.value k.value ∙ r.2) (r.3 ∙ ap₂ ◌+ℤ◌ h.number k.number) l

pub sub-Exact : (f : Format) {x y : Float} {a b : ℤ} → Exact x a → Exact y b → nat_abs (a -ℤ b) ≤ 2 ^ prec f → Exact (sub f x y) (a -ℤ b)
unfolding sub
sub-Exact f h k l = add-Exact f h (neg-Exact k) l

value_finite : (x : Float) (s : Bool) (n : ℕ) → HasValue x s n 1 → finite x ≡ true
value_finite nan s n v = absurd v
value_finite (inf t) s n v = absurd v
value_finite (fin t m e) s n v = refl

pub Exact-finite : {x : Float} {z : ℤ} → Exact x z → finite x ≡ true
Exact-finite {x} h = value_finite x h.sign h.size h.value

-- ---- in size
Exact-size : {x : Float} {z : ℤ} (h : Exact x z) → h.size ≡ nat_abs z
Exact-size h = sym (signed_abs h.sign h.size) ∙ ap nat_abs h.number

size_below : (x : Float) (s : Bool) (n j : ℕ) → HasValue x s n 1 → n < 2 ^ j → Below j x
size_below nan s n j v h = v
size_below (inf t) s n j v h = v
size_below (fin t m e) s n j v h =
    lt_of_le_of_lt (le_of_eq (sym (mul-one (m * up e)) ∙ v.1)) (lt_of_lt_of_le (mul-lt-mul_of_pos_right h (down_pos e)) (le_of_eq (mul_comm (2 ^ j) (down e))))

pub exact_below : {x : Float} {z : ℤ} (j : ℕ) → Exact x z → nat_abs z < 2 ^ j → Below j x
exact_below {x} j h l = size_below x h.sign h.size j h.value (rw (Exact-size h) l)

one_up : (x : Float) (s : Bool) (n : ℕ) → HasValue x s (suc n) 1 → OneOrMore x
one_up nan s n v = v
one_up (inf t) s n v = v
one_up (fin t m e) s n v = le_trans (first (down e)) (le_of_eq (sym (sym (mul-one (m * up e)) ∙ v.1)))
  where
    first : (d : ℕ) → d ≤ suc n * d
    first d = omega arith

pub exact_one : {x : Float} {z : ℤ} → Exact x z → (z ≡ pos 0 → ⊥) → OneOrMore x
exact_one {x} {z} h n = go h.size refl
  where
    zero_of : (s : Bool) → signed s 0 ≡ pos 0
    zero_of false = refl
    zero_of true = refl

    go : (k : ℕ) → h.size ≡ k → OneOrMore x
    go zero e = absurd (n (sym h.number ∙ (ap (signed h.sign) e ∙ zero_of h.sign)))
    go (suc k) e = one_up x h.sign k (subst (λ m. HasValue x h.sign m 1) e h.value)
