-- Three stores are one more leak.
use mathlib.Core.Path.{refl}
use native.Mathlib.Omega.{arith}
use Rattle.leaklist.proofs.Triples.{added}
use Rattle.leaklist.proofs.found.Found.add.Goals as goal

pub returns-then-leak : goal.returns-then-leak
returns-then-leak c = let g = c.args in
    let f = g.self.now in
    (added f.triples f.counts.leaks g.test.entry g.test.area g.train g.t c.leak.ensures c.if-leak.true (omega (arith, c.requires)), omega arith, refl, refl)
