-- From V's sides, computed before, come the same parameters as from V's corners. Assumes nothing.
use mathlib.Core.Path.{◌≡◌, refl, ap₂, ◌∙◌}
use mathlib.Core.Bool.{Bool, true, false}
use lib.Ieee.{Float, lt}
use Rattle.floats.specs.Finite.{nought}
use Rattle.floats.specs.Way.{given, f64, at}
use Rattle.floats.specs.declared.Position.{Position}
use Rattle.lines.specs.declared.Params.{Params}
use Rattle.lines.specs.Parameters.{parameters_by, values_of, side_of, params_by}

module _ (d : Float) (v0 v1 v2 u : Position) where
  abbrev by_corners : Params
  by_corners = values_of (parameters_by f64 (given d) (at v0) (at v1) (at v2) (at u))

  same : (below : Bool) → lt d nought ≡ below → params_by d v0 (side_of v0 v1) (side_of v0 v2) u ≡ by_corners
  same true h = rw h refl
  same false h = rw h refl

  pub by_sides : {a b : Position} {p : Params} → a ≡ side_of v0 v1 → b ≡ side_of v0 v2 → p ≡ params_by d v0 a b u → p ≡ by_corners
  by_sides ha hb h = h ∙ (ap₂ (λ a b. params_by d v0 a b u) ha hb ∙ same (lt d nought) refl)
