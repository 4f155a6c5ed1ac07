-- A ring of the code fits in six places. Assumes nothing.
use Prim.Native.Nat.{ℕ, ◌≤◌}
use mathlib.Core.Path.{◌≡◌, sym, subst}
use mathlib.Core.Bool.{Bool}
use mathlib.Core.List.{List}
use Rattle.walk.specs.declared.Ring.{Ring}
use Rattle.walk.specs.Code.{flags_and_ring}
use Rattle.walk.proofs.Most.{six_at_most}

pub ring_fits : {ring : Ring} (signs : List (List Bool)) (entry : ℕ) (before : List ℕ) → ring ≡ flags_and_ring signs entry before → ring.n ≤ 6
ring_fits signs entry before h = subst (λ w. w.n ≤ 6) (sym h) (six_at_most signs entry before)
