-- Where a read brought bytes, there are some, and no more than were asked for. Assumes nothing.
use Prim.Native.Nat.{ℕ, ◌<◌, min}
use mathlib.Core.Path.{◌≡◌, refl, ◌∙◌}
use mathlib.Core.Bool.{Bool, true, false, cond}
use native.Mathlib.Omega.{arith}
use lib.Dec.{eqb}
use lib.IntN.{pos, negsuc}
use borrow.Author.Tests.{eqb-false}
use Rattle.input.specs.declared.Piece.TheVariants.{Ended, More}
use Rattle.input.specs.Reading.{MoreWithin}

some : (b : Bool) (j k : ℕ) → eqb j 0 ≡ b → cond b Ended (More j) ≡ More k → (0 < k) × (j ≡ k)
some true j k e h = let z : ◌≡◌ {A = ℕ} 0 1 = cc in absurd (omega (arith, z))
some false j k e h = let same : j ≡ k = cc in let n = eqb-false j 0 e in (positive k (λ z. n (same ∙ z)), same)
  where
    positive : (m : ℕ) → (m ≡ 0 → ⊥) → 0 < m
    positive m h = omega (arith, h)

pub more_within : MoreWithin
more_within most (negsuc j) k h = let z : ◌≡◌ {A = ℕ} 0 1 = cc in absurd (omega (arith, z))
more_within most (pos j) k h =
    let s = some (eqb (min j most) 0) (min j most) k refl h in
    let e = s.1 in
    (s.0, omega (arith, e))
