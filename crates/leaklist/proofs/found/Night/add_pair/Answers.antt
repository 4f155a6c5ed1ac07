-- Where the own boxes share no point nothing is found.
use Prim.Native.Nat.{◌<◌}
use mathlib.Core.Path.{sym, ◌∙◌}
use native.Mathlib.Omega.{arith}
use Rattle.layout.specs.Parts.{count_of}
use Rattle.leaklist.proofs.Gathered.{far_none, empty_item, with_nothing}
use Rattle.leaklist.specs.Code.{found_in}
use Rattle.leaklist.proofs.found.Night.add_pair.Goals as goal

pub returns-else-share_point : goal.returns-else-share_point
returns-else-share_point c =
    let g = c.args in
    let p = c.requires in
    let night = g.self.now in
    let file = night.file.now in
    let i = g.test.number in
    let hj : g.j < count_of file = omega (arith, p.1, night.gathered.recordings) in
    let none = far_none file night.triangles.shapes.now night.triangles.bounds.now night.own.now night.gathered i g.j p.0.0 hj (sym c.share_point.ensures ∙ c.if-share_point.false) in
    (with_nothing (found_in g.found.now.triples g.found.now.counts) (empty_item file i g.j none), omega arith, omega arith)
