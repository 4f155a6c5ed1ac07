-- Pairs at the borders of the rules, as a second list of cases. The values are bit patterns; the answers come from a program that was written from
-- 01 alone, apart from these definitions. Definitions only.
use Rattle.std.specs.Prelude.{List, ◌++◌}
use Rattle.triangles.specs.Cases.{Case}
use Rattle.triangles.specs.Overflows.{overflows}
use Rattle.triangles.specs.TiesAndZeros.{ties_and_zeros}
use Rattle.triangles.specs.Formulas.{formulas}

abbrev pub witnesses : List Case
witnesses = overflows ++ (ties_and_zeros ++ formulas)
