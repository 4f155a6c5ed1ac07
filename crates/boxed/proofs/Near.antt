-- A search that finds a box ends before the other one, and one that finds none at it or behind it. Assumes nothing.
use Prim.Native.Nat.{ℕ, max, ◌≤◌}
use mathlib.Core.Path.{refl, sym, ap, ◌∙◌}
use native.Mathlib.Omega.{arith}
use Rattle.std.specs.Prelude.{Some, None}
use Rattle.boxed.specs.Tables.{NoSecondNear}

beyond : (from to : ℕ) → to ≤ max from to
beyond from to = omega arith

pub no_second_near : NoSecondNear
no_second_near from to n None None p q = refl
no_second_near from to n None (Some k) p q = let h = beyond from to in absurd (omega (arith, p, q.0, q.1, h))
no_second_near from to n (Some j) None p q = let h = beyond from to in absurd (omega (arith, p.0, p.1, q, h))
no_second_near from to n (Some j) (Some k) p q = ap Some (p.0 ∙ sym q.0)
