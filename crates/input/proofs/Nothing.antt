-- Where nothing is read it is as if a read had failed. Assumes nothing.
use Prim.Native.Nat.{ℕ}
use mathlib.Core.Path.{◌≡◌}
use mathlib.Core.Bool.{false≢true}
use mathlib.Core.List.{List}
use native.Mathlib.Omega.{arith}
use Rattle.arrival.proofs.Further.{none_so_far}
use Rattle.input.specs.declared.Piece.TheVariants.{Failed, More}
use Rattle.input.specs.Reading.{Gathered}

pub nothing_read : (lent : List ℕ) → Gathered lent (record { arrived = 0; last = Failed }) lent
nothing_read lent = record { so_far = none_so_far _; size = λ e. absurd (false≢true e); too_many = λ k e. absurd (failed_not e) }
  where
    failed_not : {k : ℕ} → Failed ≡ More k → ⊥
    failed_not {k} e = let z : ◌≡◌ {A = ℕ} 0 1 = cc in omega (arith, z)
