-- Twenty bytes and three numbers.
use native.Mathlib.Omega.{arith}
use Rattle.wording.proofs.Lines.{line_length}
use Rattle.wording.proofs.line_length.Goals as goal

pub returns : goal.returns
returns c = let g = c.args in
    let a = c.width.ensures in
    let b = c.width-2.ensures in
    let d = c.width-3.ensures in
    let f = c.ranges in
    (omega (arith, line_length g.test g.train g.n, a.0, b.0, d.0), omega (arith, a.1, b.1, d.1, f.test, f.train, f.n))
