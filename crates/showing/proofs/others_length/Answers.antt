-- Each turn takes one from those that are left.
use Rattle.showing.proofs.Polygons.{others_length, others_done}
use lib.ListN.{length}
use mathlib.Core.Path.{ap}
use native.Mathlib.Omega.{arith}
use Rattle.showing.proofs.others_length.Goals as goal

pub loop-bytes-preserved : goal.loop-bytes-preserved
loop-bytes-preserved c = let l = c.loop-bytes in
    let m = c.polygon_length.ensures in
    let e = others_length c.args.triangles.now l.bytes-index c.loop-bytes-test.true m.0 in
    (omega (arith, e, l.invariant.0), omega (arith, m.1, l.invariant.1))

pub returns : goal.returns
returns c = let l = c.loop-bytes in
    let e = ap length (others_done c.args.triangles.now l.bytes-index c.loop-bytes-test.false) in
    (omega (arith, e, l.invariant.0), omega (arith, l.invariant.1, l.auto.bytes-index-end))
