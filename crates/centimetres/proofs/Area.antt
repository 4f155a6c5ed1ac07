-- The ring of twelve whole centimetres in range has a finite area: it has six corners at most, each below 2 ^ 70. Assumes nothing.
use Prim.Native.Nat.{ℕ, zero, suc, ◌+◌, ◌-◌, ◌*◌, ◌<◌, ◌≤◌}
use mathlib.Core.Path.{◌≡◌, refl, subst}
use mathlib.Core.Logic.{inl, inr}
use mathlib.Core.Bool.{true}
use mathlib.Core.List.{List, [], ◌∷◌}
use native.Mathlib.Omega.{arith}
use lib.Dec.{lit≤, lit<}
use lib.ListN.{length, length-map}
use lib.IntN.{ℤ}
use lib.Ieee.{of_bits}
use Rattle.floats.specs.Lists.{all}
use Rattle.floats.specs.Finite.{nought}
use Rattle.floats.specs.Numbers.{Point, cross_from}
use Rattle.floats.specs.Way.{Way, given, ◌⊕◌, fine, f64}
use Rattle.ring.specs.Demand.{NoneOrThreeToSix}
use Rattle.triangles.specs.Pair.{ring_of}
use Rattle.triangles.specs.Positions.{position_of, ring_positions, corner_at, sum_to, half, area_of}
use Rattle.triangles.proofs.Demand.{sound}
use Rattle.centimetres.proofs.Ways.{Under, Under-plus, Under-minus, Under-times, Under-turned, under_more, Under-given}
use Rattle.centimetres.proofs.Pair.{Twelve, values}
use Rattle.centimetres.proofs.Positions.{Near, position_Near, corner_Near}

cross_Under : {a b c : Point Way} → Near a → Near b → Near c → Under 147 (cross_from f64 a b c)
cross_Under a b c =
    Under-minus
    (Under-times (Under-minus b.x a.x (lit≤ tt)) (Under-minus c.y a.y (lit≤ tt)) (lit≤ tt))
    (Under-times (Under-minus b.y a.y (lit≤ tt)) (Under-minus c.x a.x (lit≤ tt)) (lit≤ tt))
    (lit≤ tt)

nought-Under : Under 147 (given nought)
unfolding of_bits
nought-Under = Under-given (lit< tt)

half-Under : Under 1 (given half)
unfolding of_bits
half-Under = Under-given (lit< tt)

-- m crosses want m + 2 corners
sum_Under : (cs : List (Point Way)) (m : ℕ) → ((k : ℕ) → k < m + 2 → 0 < m → Near (corner_at cs k)) → m ≤ 4 → Under (147 + 2 * m) (sum_to cs m)
unfolding sum_to
sum_Under cs zero h l = nought-Under
sum_Under cs (suc m) h l =
    let some : 0 < suc m = omega arith in
    subst (λ n. Under n (sum_to cs m ⊕ cross_from f64 (corner_at cs 0) (corner_at cs (m + 1)) (corner_at cs (m + 2)))) (next m)
    (Under-plus (sum_Under cs m (λ k p q. h k (omega arith) some) (omega arith))
    (under_more (cross_Under (h 0 (omega arith) some) (h (m + 1) (omega arith) some) (h (m + 2) (omega arith) some)) (omega arith)) (omega arith))
  where
    next : (m : ℕ) → suc (suc (147 + 2 * m)) ≡ 147 + 2 * suc m
    next m = omega arith

area_fine : (cs : List (Point Way)) → ((k : ℕ) → k < length cs → Near (corner_at cs k)) → length cs ≤ 6 → fine (area_of cs) ≡ true
unfolding area_of all
area_fine [] h l = refl
area_fine (c ∷ cs) h l =
    let n = length (c ∷ cs) - 2 in
    (Under-times half-Under (Under-turned (f64.is_below_zero (sum_to (c ∷ cs) n)) (sum_Under (c ∷ cs) n (λ k p q. h k (omega arith)) (omega arith))) (omega arith)).is_fine

-- ---- of the ring
module _ {zs : List ℤ} (h : Twelve zs) where
  at_most_six : length (ring_of (values zs)) ≤ 6
  unfolding ring_of
  at_most_six = go (sound (values zs)).size
    where
      go : {n : ℕ} → NoneOrThreeToSix n → n ≤ 6
      go (inl e) = omega arith
      go (inr h) = h.1

  pub ring_area_fine : fine (area_of (ring_positions (values zs))) ≡ true
  unfolding ring_positions
  ring_area_fine =
      let e = length-map (ring_of (values zs)) (position_of (values zs)) in
      let six = at_most_six in
      area_fine (ring_positions (values zs)) (λ k b. corner_Near (values zs) (ring_of (values zs)) (position_Near h) k (omega arith)) (omega arith)
