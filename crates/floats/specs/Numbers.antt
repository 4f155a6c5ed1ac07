-- 01, "Numbers and lines": the cross and what it is taken of, in any numbers. Definitions only.
-- The rules are written once over these operations. f64 that keeps every value on the way is one instance (`Way`).
use Rattle.std.specs.Prelude.{Bool}

-- what the rules ask of numbers: two operations, negation, and four comparisons with zero (≥, ≤, <, =)
pub record Numbers : Type 1 where
  pub N : Type 0
  pub minus : N → N → N
  pub times : N → N → N
  pub negate : N → N
  pub is_at_least_zero : N → Bool
  pub is_at_most_zero : N → Bool
  pub is_below_zero : N → Bool
  pub is_zero : N → Bool

-- a point of the plane, or the difference of two
pub record Point (N : Type 0) : Type 0 where
  pub x : N
  pub y : N

module _ (K : Numbers) where
  -- of (p,q) and (r,s): p·s − q·r
  abbrev pub cross : K.N → K.N → K.N → K.N → K.N
  cross p q r s = K.minus (K.times p s) (K.times q r)

  -- b − a, each component by itself
  abbrev pub minus_point : Point K.N → Point K.N → Point K.N
  minus_point b a = record { x = K.minus b.x a.x; y = K.minus b.y a.y }

  -- the cross of b − a and c − a: d, e, x, y and the terms of the area are of this form
  abbrev pub cross_from : Point K.N → Point K.N → Point K.N → K.N
  cross_from a b c =
      let r = minus_point b a in
      let s = minus_point c a in
      cross r.x r.y s.x s.y
