-- Behind the whole metres stand the point and two decimals.
use Prim.Native.Nat.{◌/◌}
use Rattle.polygons.proofs.Numbers.{size_length}
use Rattle.text.proofs.Laws.{width_most}
use native.Mathlib.Omega.{arith}
use Rattle.polygons.proofs.size_length.Goals as goal

pub returns : goal.returns
returns c = let s = size_length c.args.n in
    let w = c.width.ensures.0 in
    let m = width_most 7 (c.args.n / 100) (omega (arith, c.requires)) in
    (omega (arith, s, w), omega (arith, w, m))
