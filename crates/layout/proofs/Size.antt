-- How large differences and products of whole numbers can be, and so what the machine's signed numbers can hold. Assumes nothing.
use Prim.Native.Nat.{ℕ, zero, suc, ◌+◌, ◌-◌, ◌*◌, ◌<◌, ◌≤◌, ◌^◌}
use mathlib.Core.Path.{◌≡◌, refl, sym, subst}
use mathlib.Core.Bool.{Bool, true, false, cond}
use native.Mathlib.Omega.{arith}
use native.Mathlib.Nat.{mul-le-mul, le_refl}
use lib.Dec.{T, ltb, eqb}
use lib.IntN.{ℤ, pos, negsuc, neg_ℤ, nat_abs, sub_ℕ, ◌+ℤ◌, ◌-ℤ◌, ◌*ℤ◌}
use lib.Signed.{lt_z}
use borrow.Author.Tests.{lt-ltb, le-ltb, ne_eqb, ltb-true, ltb-false}
use mir.Val.{SFits, of_z}
use mir.Syntax.{w32, w64}
use Rattle.floats.specs.Whole.{is_nought}
use Rattle.layout.specs.Rules.{is_far}

pub abs_neg : (a : ℤ) → nat_abs (neg_ℤ a) ≡ nat_abs a
abs_neg (pos zero) = refl
abs_neg (pos (suc n)) = refl
abs_neg (negsuc n) = refl

abs_cond : (t : Bool) (a b m : ℕ) → suc a ≤ m → b ≤ m → nat_abs (cond t (negsuc a) (pos b)) ≤ m
abs_cond true a b m p q = p
abs_cond false a b m p q = q

abs_sub : (a b : ℕ) → nat_abs (sub_ℕ a (suc b)) ≤ a + suc b
abs_sub a b = abs_cond (ltb a (suc b)) (suc b - suc a) (a - suc b) (a + suc b) (omega arith) (omega arith)

abs_add : (a b : ℤ) → nat_abs (a +ℤ b) ≤ nat_abs a + nat_abs b
abs_add (pos a) (pos b) = le_refl _
abs_add (pos a) (negsuc b) = abs_sub a b
abs_add (negsuc a) (pos b) = let h = abs_sub b a in omega arith
abs_add (negsuc a) (negsuc b) = omega arith

abs_minus : (a b : ℤ) → nat_abs (a -ℤ b) ≤ nat_abs a + nat_abs b
abs_minus a b = rw (← abs_neg b) (abs_add a (neg_ℤ b))

abs_times : (a b : ℤ) → nat_abs (a *ℤ b) ≡ nat_abs a * nat_abs b
abs_times (pos a) (pos b) = refl
abs_times (pos a) (negsuc b) = abs_neg (pos (a * suc b))
abs_times (negsuc a) (pos b) = abs_neg (pos (suc a * b))
abs_times (negsuc a) (negsuc b) = refl

pub minus_le : (a b : ℤ) (m n : ℕ) → nat_abs a ≤ m → nat_abs b ≤ n → nat_abs (a -ℤ b) ≤ m + n
minus_le a b m n p q = let h = abs_minus a b in omega arith

pub times_le : (a b : ℤ) (m n : ℕ) → nat_abs a ≤ m → nat_abs b ≤ n → nat_abs (a *ℤ b) ≤ m * n
times_le a b m n p q = rw abs_times (mul-le-mul p q)

-- what an i64 holds
pub holds : (z : ℤ) (m : ℕ) → nat_abs z ≤ m → m < 2 ^ 63 → SFits w64 z
holds (pos n) m p q = record { sfits = omega arith }
holds (negsuc n) m p q = record { sfits = omega arith }

-- and what an i32 holds, an i64 does
pub wider : (z : ℤ) → SFits w32 z → SFits w64 z
wider (pos n) f = let h = f.sfits in record { sfits = omega arith }
wider (negsuc n) f = let h = f.sfits in record { sfits = omega arith }

-- 32 bits from the middle on are a number below zero
pub turned : (v : ℕ) → 2147483648 ≤ v → v < 4294967296 → SFits w32 (pos v -ℤ pos 4294967296)
turned v h l = rw (lt-ltb v 4294967296 l) (record { sfits = omega arith })

-- bits that are all zero are the number zero
pub zero_bits : (z : ℤ) → SFits w64 z → eqb (of_z w64 z) 0 ≡ is_nought z
zero_bits (pos zero) f = refl
zero_bits (pos (suc n)) f = ne_eqb (suc n) 0 (λ (q : suc n ≡ 0). omega arith)
zero_bits (negsuc n) f = ne_eqb (2 ^ 64 - suc n) 0 (λ (q : 2 ^ 64 - suc n ≡ 0). let g : n < 2 ^ 63 = f.sfits in omega arith)

-- below one end of the range, or above the other
pub far_below : (z : ℤ) → lt_z z (negsuc 999999) ≡ true → true ≡ is_far z
far_below (pos n) e = absurd (subst T (sym e) tt)
far_below (negsuc n) e = sym (lt-ltb 1000000 (suc n) (omega (arith, ltb-true 999999 n e)))

pub far_above : (z : ℤ) → lt_z z (negsuc 999999) ≡ false → lt_z (pos 1000000) z ≡ is_far z
far_above (pos n) e = refl
far_above (negsuc n) e = sym (le-ltb 1000000 (suc n) (omega (arith, ltb-false 999999 n e)))

pub near : (z : ℤ) → is_far z ≡ false → nat_abs z ≤ 1000000
near z e = ltb-false 1000000 (nat_abs z) e
