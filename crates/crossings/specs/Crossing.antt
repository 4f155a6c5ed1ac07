-- A crossing as the code finds it. Definitions only.
use Rattle.std.specs.Prelude.{Float}
use Rattle.std.specs.Float.{binary64}
use Rattle.std.specs.Float.Ieee.{sub}
use Rattle.floats.specs.Finite.{finite}
use Rattle.floats.specs.Way.{given, at}
use Rattle.floats.specs.declared.Position.{Position}
use Rattle.crossings.specs.declared.Crossed.{Crossed}
use Rattle.triangles.specs.Positions.{fraction, between}

-- between P and Q, with the line's parameter at either: t, the position by it, and whether the denominator of t is finite
unfoldable pub crossed_on : Float → Float → Position → Position → Crossed
crossed_on p q P Q =
    let t = fraction (given p) (given q) in
    let c = between t (at P) (at Q) in
    record { t = t.value; x = c.x.value; y = c.y.value; fine = finite (sub binary64 p q) }
