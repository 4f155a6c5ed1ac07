-- The sign and the size.
use Rattle.chart.specs.Numbers.{size_text}
use Rattle.layout.specs.Bytes.{signed}
use Rattle.polygons.proofs.Numbers.{metres_length}
use lib.ListN.{length}
use mathlib.Core.Path.{ap, ◌∙◌}
use native.Mathlib.Omega.{arith}
use Rattle.polygons.proofs.number_length.Goals as goal

pub returns : goal.returns
returns c = let s = c.sign_length.ensures in
    let n = c.size_length.ensures in
    (metres_length (signed c.args.v) s.0 (n.0 ∙ ap (λ k. length (size_text k)) c.size_of.ensures.0), omega (arith, s.1, n.1))
