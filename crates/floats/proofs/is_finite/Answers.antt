-- std's word says it of each of the three kinds of value, as the rules do.
use Rattle.std.proofs.Common.{◌≡◌, refl}
use mathlib.Core.Path.{◌∙◌}
use Rattle.std.specs.Float.{float_is_finite, nan, inf, fin}
use Rattle.std.specs.Prelude.{Float}
use Rattle.floats.specs.Finite.{finite}
use Rattle.floats.proofs.is_finite.Goals as goal

same : (x : Float) → float_is_finite x ≡ finite x
unfolding float_is_finite
same nan = refl
same (inf s) = refl
same (fin s m e) = refl

pub returns : goal.returns
returns c = c.is_finite.ensures.value ∙ same c.args.x
