-- Values on the way: whole numbers of some size at most, and values below a power of two. What sums, differences, products and quotients make of them, every value on the way being finite.
-- Assumes nothing.
use Prim.Native.Nat.{ℕ, suc, ◌+◌, ◌*◌, ◌^◌, ◌<◌, ◌≤◌}
use mathlib.Core.Path.{◌≡◌, refl, sym, subst, ◌∙◌}
use mathlib.Core.Bool.{Bool, true, false, cond}
use mathlib.Core.List.{◌++◌}
use native.Mathlib.Nat.{le_trans, lt_of_le_of_lt}
use lib.IntN.{ℤ, pos, neg_ℤ, nat_abs, ◌-ℤ◌, ◌*ℤ◌}
use lib.Ieee.{Float, binary64, neg}
use Rattle.floats.specs.Lists.{all}
use Rattle.floats.specs.Finite.{finite}
use Rattle.floats.specs.Way.{Way, given, step, ◌⊕◌, ◌⊖◌, ◌⊗◌, ◌⊘◌, negated, fine}
use Rattle.floats.proofs.Lists.{all_append}
use Rattle.floats.proofs.Told.{fine-step}
use Rattle.layout.proofs.Size.{abs_neg, minus_le, times_le}
use Rattle.centimetres.proofs.Below.{Below, Below-finite, below_more, add-Below, sub-Below, neg-Below, mul-Below, div_below}
use Rattle.centimetres.proofs.Exact.{Exact, sub-Exact, mul-Exact, neg-Exact, Exact-finite, exact_below, exact_one}

-- below 2 ^ j in size
pub record Under (j : ℕ) (w : Way) : Type 0 where
  pub below : Below j w.value
  pub is_fine : fine w ≡ true

-- the whole number z, of size k at most
pub record Whole (k : ℕ) (w : Way) (z : ℤ) : Type 0 where
  pub exact : Exact w.value z
  pub small : nat_abs z ≤ k
  pub is_fine : fine w ≡ true

-- one operation more
fine_two : (a b : Way) (v : Float) → fine a ≡ true → fine b ≡ true → finite v ≡ true → fine (step v (a.way ++ b.way)) ≡ true
fine_two a b v p q r = fine-step v (a.way ++ b.way) ∙ rw (all_append finite a.way b.way, p, q, r) refl

fine_one : (a : Way) (v : Float) → fine a ≡ true → finite v ≡ true → fine (step v a.way) ≡ true
fine_one a v p r = fine-step v a.way ∙ rw (p, r) refl

-- ---- below a power of two
Under-op : (a b : Way) {j : ℕ} {v : Float} → fine a ≡ true → fine b ≡ true → Below j v → Under j (step v (a.way ++ b.way))
Under-op a b {j} {v} p q h = record { below = h; is_fine = fine_two a b v p q (Below-finite j v h) }

pub Under-plus : {j : ℕ} {a b : Way} → Under j a → Under j b → suc j ≤ 1023 → Under (suc (suc j)) (a ⊕ b)
Under-plus {j} {a} {b} h k l = Under-op a b h.is_fine k.is_fine (add-Below binary64 a.value b.value j h.below k.below l)

pub Under-minus : {j : ℕ} {a b : Way} → Under j a → Under j b → suc j ≤ 1023 → Under (suc (suc j)) (a ⊖ b)
Under-minus {j} {a} {b} h k l = Under-op a b h.is_fine k.is_fine (sub-Below binary64 a.value b.value j h.below k.below l)

pub Under-times : {i j : ℕ} {a b : Way} → Under i a → Under j b → i + j ≤ 1023 → Under (suc (i + j)) (a ⊗ b)
Under-times {i} {j} {a} {b} h k l = Under-op a b h.is_fine k.is_fine (mul-Below binary64 a.value b.value i j h.below k.below l)

pub Under-turned : {j : ℕ} {a : Way} (b : Bool) → Under j a → Under j (cond b (negated a) a)
Under-turned {j} {a} true h = let n = neg-Below binary64 a.value j h.below in record { below = n; is_fine = fine_one a (neg a.value) h.is_fine (Below-finite j (neg a.value) n) }
Under-turned false h = h

pub under_more : {i j : ℕ} {a : Way} → Under i a → i ≤ j → Under j a
under_more {i} {j} {a} h l = record { below = below_more i j a.value l h.below; is_fine = h.is_fine }

-- a value whose way is no longer kept
pub Under-given : {j : ℕ} {x : Float} → Below j x → Under j (given x)
unfolding all
Under-given h = record { below = h; is_fine = refl }

-- ---- whole numbers
Whole-op : (a b : Way) {k : ℕ} {v : Float} {z : ℤ} → fine a ≡ true → fine b ≡ true → Exact v z → nat_abs z ≤ k → Whole k (step v (a.way ++ b.way)) z
Whole-op a b {k} {v} p q e l = record { exact = e; small = l; is_fine = fine_two a b v p q (Exact-finite e) }

pub Whole-minus : {k l : ℕ} {v w : Way} {a b : ℤ} → Whole k v a → Whole l w b → k + l ≤ 2 ^ 53 → Whole (k + l) (v ⊖ w) (a -ℤ b)
Whole-minus {k} {l} {v} {w} {a} {b} h g t = let m = minus_le a b k l h.small g.small in Whole-op v w h.is_fine g.is_fine (sub-Exact binary64 h.exact g.exact (le_trans m t)) m

pub Whole-times : {k l : ℕ} {v w : Way} {a b : ℤ} → Whole k v a → Whole l w b → k * l ≤ 2 ^ 53 → Whole (k * l) (v ⊗ w) (a *ℤ b)
Whole-times {k} {l} {v} {w} {a} {b} h g t = let m = times_le a b k l h.small g.small in Whole-op v w h.is_fine g.is_fine (mul-Exact binary64 h.exact g.exact (le_trans m t)) m

pub Whole-turned : {k : ℕ} {w : Way} {a : ℤ} (b : Bool) → Whole k w a → Whole k (cond b (negated w) w) (cond b (neg_ℤ a) a)
Whole-turned {k} {w} {a} true h =
    let e = neg-Exact h.exact in
    record { exact = e; small = subst (λ n. n ≤ k) (sym (abs_neg a)) h.small; is_fine = fine_one w (neg w.value) h.is_fine (Exact-finite e) }
Whole-turned false h = h

pub Whole-more : {k l : ℕ} {w : Way} {a : ℤ} → Whole k w a → k ≤ l → Whole l w a
Whole-more h t = record { exact = h.exact; small = le_trans h.small t; is_fine = h.is_fine }

pub Whole-given : {k : ℕ} {x : Float} {a : ℤ} → Exact x a → nat_abs a ≤ k → Whole k (given x) a
unfolding all
Whole-given e m = record { exact = e; small = m; is_fine = refl }

pub Whole-Under : {k : ℕ} {w : Way} {a : ℤ} (j : ℕ) → Whole k w a → k < 2 ^ j → Under j w
Whole-Under j h t = record { below = exact_below j h.exact (lt_of_le_of_lt h.small t); is_fine = h.is_fine }

-- divided by a whole number that is not zero
pub Under-divided : {j k : ℕ} {a b : Way} {z : ℤ} → Under j a → Whole k b z → (z ≡ pos 0 → ⊥) → j ≤ 1023 → Under (suc j) (a ⊘ b)
Under-divided {j} {k} {a} {b} h g n l = Under-op a b h.is_fine g.is_fine (div_below binary64 a.value b.value j h.below (exact_one g.exact n) l)
