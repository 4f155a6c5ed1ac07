-- 01, "Lent memory and refusals, triangles": which values are finite. Definitions only.
use Rattle.std.specs.Prelude.{Bool, true, false, Float}
use Rattle.std.specs.Float.{nan, inf, fin, binary64}
use Rattle.std.specs.Float.Ieee.{of_bits}

-- neither NaN nor an infinity
abbrev pub finite : Float → Bool
finite nan = false
finite (inf s) = false
finite (fin s m e) = true

-- 0.0, from which the area's sum starts and with which signs compare
abbrev pub nought : Float
nought = of_bits binary64 0

-- 1.0, the most that a fraction of an edge is
abbrev pub one : Float
one = of_bits binary64 0x3ff0_0000_0000_0000
