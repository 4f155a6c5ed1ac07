-- Only with a training recording is anything found, and what is found is by what is counted.
use Prim.Native.Nat.{◌+◌, ◌<◌}
use mathlib.Core.Path.{refl, ap, ◌∙◌}
use native.Mathlib.Omega.{arith}
use Rattle.floats.specs.Lists.{once}
use Rattle.layout.specs.Parts.{count_of}
use Rattle.leaklist.proofs.Gathered.{no_item, an_item, item_tested, pair_added, with_nothing, tally_fits, count_by}
use Rattle.leaklist.specs.Code.{found_in, together}
use Rattle.leaklist.proofs.found.Night.add_near.Goals as goal

pub tally-t-requires : goal.tally-t-requires
tally-t-requires c =
    let g = c.args in
    let p = c.requires in
    let night = g.self.now in
    let file = night.file.now in
    let i = g.test.number in
    let hj : g.j < count_of file = omega (arith, p.1, night.gathered.recordings) in
    tally_fits file night.triangles.shapes.now night.triangles.bounds.now night.own.now night.gathered i g.j p.0.0 hj p.0.1 c.entry-f.ensures refl

pub overflow_add-found-then-is_training : goal.overflow_add-found-then-is_training
overflow_add-found-then-is_training c =
    let g = c.args in
    let p = c.requires in
    let night = g.self.now in
    let file = night.file.now in
    let i = g.test.number in
    let hj : g.j < count_of file = omega (arith, p.1, night.gathered.recordings) in
    let f = c.entry-f.ensures in
    let t = item_tested file i g.j f c.is_training.ensures c.if-is_training.true (count_by file night.triangles.shapes.now night.triangles.bounds.now night.own.now night.gathered i g.j p.0.0 hj p.0.1 f c.tally-t.ensures) in
    omega (arith, t, p.4, c.add.ensures.3)

pub returns-then-is_training : goal.returns-then-is_training
returns-then-is_training c =
    let g = c.args in
    let p = c.requires in
    let night = g.self.now in
    let file = night.file.now in
    let i = g.test.number in
    let hj : g.j < count_of file = omega (arith, p.1, night.gathered.recordings) in
    let before = found_in g.found.now.triples g.found.now.counts in
    let added = c.add.ensures in
    let f = c.entry-f.ensures in
    let one = c.one_if.ensures in (
      pair_added before g.test.entry g.test.area c.entry-f.result.id c.tally-t.result added.0 (one.0 ∙ ap once c.only_touch.ensures) (ap (λ n. n + c.one_if.result) added.2) (ap (λ n. n + c.tally-t.result.tested) added.3)
          ∙ ap (together before) (an_item file i g.j p.0.1 p.0.2 f c.is_training.ensures c.if-is_training.true (count_by file night.triangles.shapes.now night.triangles.bounds.now night.own.now night.gathered i g.j p.0.0 hj p.0.1 f c.tally-t.ensures)),
      added.1,
      omega (arith, one.1, added.2),
    )

pub returns-else-is_training : goal.returns-else-is_training
returns-else-is_training c =
    let g = c.args in
    (with_nothing (found_in g.found.now.triples g.found.now.counts) (no_item g.self.now.file.now g.test.number g.j c.entry-f.ensures c.is_training.ensures c.if-is_training.false), omega arith, omega arith)
