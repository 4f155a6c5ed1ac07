-- Two numbers, and the space between them.
use Rattle.polygons.proofs.Pieces.{point_length}
use native.Mathlib.Omega.{arith}
use Rattle.polygons.proofs.point_length.Goals as goal

pub returns : goal.returns
returns c = let g = c.args in
    let m = c.number_length.ensures in
    let n = c.number_length-2.ensures in
    (point_length g.x g.y m.0 n.0, omega (arith, m.1, n.1))
