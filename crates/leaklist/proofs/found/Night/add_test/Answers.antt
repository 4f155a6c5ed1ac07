-- Only a test recording has a row.
use Prim.Native.Nat.{◌<◌}
use mathlib.Core.Path.{sym, ap, ◌∙◌}
use native.Mathlib.Omega.{arith}
use Rattle.layout.specs.Parts.{count_of}
use Rattle.leaklist.proofs.Gathered.{area_fits, area_by, with_nothing, row_if}
use Rattle.leaklist.specs.Code.{found_in, together}
use Rattle.leaklist.proofs.found.Night.add_test.Goals as goal

pub asked_area-requires : goal.asked_area-requires
asked_area-requires c = let night = c.args.self.now in
    area_fits night.file.now night.triangles.shapes.now night.triangles.bounds.now night.own.now night.gathered c.args.i (omega (arith, c.requires.0, night.gathered.recordings)) c.entry-e.ensures

pub add_row-requires : goal.add_row-requires
add_row-requires c = let g = c.args in
    let p = c.requires in
    let night = g.self.now in
    let e = c.entry-e.ensures in
    let hi : g.i < count_of night.file.now = omega (arith, p.0, night.gathered.recordings) in
    let t = ap (λ f. f.tested) (row_if night.file.now g.i e c.is_test.ensures c.if-is_test.true) in
    ((hi, e, area_by night.file.now night.triangles.shapes.now night.triangles.bounds.now night.own.now night.gathered g.i hi e c.asked_area.ensures), p.1, p.2, omega (arith, t, p.3))

pub returns-then-is_test : goal.returns-then-is_test
returns-then-is_test c = let g = c.args in
    let a = c.add_row.ensures in
    (a.0 ∙ ap (together (found_in g.found.now.triples g.found.now.counts)) (sym (row_if g.self.now.file.now g.i c.entry-e.ensures c.is_test.ensures c.if-is_test.true)), a.1, a.2)

pub returns-else-is_test : goal.returns-else-is_test
returns-else-is_test c = let g = c.args in
    (with_nothing (found_in g.found.now.triples g.found.now.counts) (sym (row_if g.self.now.file.now g.i c.entry-e.ensures c.is_test.ensures c.if-is_test.false)), omega arith, omega arith)
