-- Each turn adds what is found of one more recording.
use mathlib.Core.Path.{◌≡◌, ap, ◌∙◌}
use native.Mathlib.Omega.{arith}
use Rattle.layout.specs.Parts.{count_of}
use Rattle.leaklist.proofs.Gathered.{good-Layout, list_none, list_turn}
use Rattle.leaklist.proofs.Most.{tested_fits}
use Rattle.leaklist.specs.Code.{list_to}
use Rattle.leaklist.proofs.found.Night.gather.Goals as goal

pub loop-i-init : goal.loop-i-init
loop-i-init c = let none = c.requires in
    (none.0 ∙ list_none c.args.self.now.file.now, omega (arith, none.1), omega (arith, none.2))

pub add_test-requires : goal.add_test-requires
add_test-requires c = let night = c.args.self.now in
    let l = c.loop-i in
    let h = c.loop-i-test.true in
    let few = night.few in
    let so_far = ap (λ f. f.tested) l.invariant.0 in
    let good = good-Layout night.file.now night.triangles.shapes.now night.triangles.bounds.now night.own.now night.gathered in
    let fits = tested_fits night.file.now good l.i (omega (arith, h, night.gathered.recordings)) in
    (h, omega (arith, h, l.invariant.1, few), omega (arith, h, l.invariant.2, few), omega (arith, so_far, fits))

pub loop-i-preserved : goal.loop-i-preserved
loop-i-preserved c = let l = c.loop-i in
    let a = c.add_test.ensures in
    (list_turn c.args.self.now.file.now l.i l.invariant.0 a.0, omega (arith, a.1, l.invariant.1), omega (arith, a.2, l.invariant.2))

pub returns : goal.returns
returns c = let night = c.args.self.now in
    let l = c.loop-i in
    let few = night.few in
    let all : l.i ≡ count_of night.file.now = omega (arith, l.auto.i-end, c.loop-i-test.false, night.gathered.recordings) in
    (l.invariant.0 ∙ ap (list_to night.file.now) all, omega (arith, l.invariant.1, l.auto.i-end, few))
