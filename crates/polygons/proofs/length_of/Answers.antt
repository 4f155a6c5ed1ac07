-- Four points, of which the first and the last are the same, and what stands around them.
use Rattle.polygons.proofs.Pieces.{polygon_length}
use native.Mathlib.Omega.{arith}
use Rattle.polygons.proofs.length_of.Goals as goal

pub returns : goal.returns
returns c = let g = c.args in
    let l = c.point_length.ensures in
    let m = c.point_length-2.ensures in
    let n = c.point_length-3.ensures in
    (polygon_length g.six l.0 m.0 n.0, omega (arith, l.1, m.1, n.1))
