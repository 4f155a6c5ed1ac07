-- From two shapes, each that of its own vertices, come d, e and the parameters of their twelve values. Assumes nothing.
use mathlib.Core.Path.{◌≡◌, refl, ap}
use Rattle.floats.specs.Way.{given, f64, at}
use Rattle.floats.specs.declared.Position.{Position}
use Rattle.lines.specs.declared.Params.{Params}
use Rattle.lines.specs.Parameters.{parameters_by, values_of, params_by}
use Rattle.lines.proofs.Sides.{by_sides}
use Rattle.shapes.specs.declared.Shape.{Shape}
use Rattle.shapes.specs.Shapes.{Made, first, second, third, side_a, side_b, twelve}
use Rattle.routine.specs.Code.{Starts, start_by}
use Rattle.routine.proofs.Entry.{all_given}

module _ (u v : Shape) (made : Made u × Made v) where
  abbrev by_shape : Position → Params
  by_shape w = params_by v.cross (first v) (side_a v) (side_b v) w

  by_corners : (w : Position) {p : Params} → p ≡ by_shape w → p ≡ values_of (parameters_by f64 (given v.cross) (at (first v)) (at (second v)) (at (third v)) (at w))
  by_corners w = by_sides v.cross (first v) (second v) (third v) w (ap side_a made.1) (ap side_b made.1)

  pub shapes_give : Starts (twelve u v) (start_by u v)
  shapes_give =
      all_given (twelve u v) {pair = (record { a = first u; b = second u; c = third u }, record { a = first v; b = second v; c = third v })} refl
      (ap (λ s. s.cross) made.1) (ap (λ s. s.cross) made.0)
      (by_corners (first u) refl) (by_corners (second u) refl) (by_corners (third u) refl)
