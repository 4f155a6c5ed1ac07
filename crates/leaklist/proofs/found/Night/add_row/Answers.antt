-- Each turn adds what is found with one more recording.
use mathlib.Core.Path.{◌≡◌, ap, ◌∙◌}
use native.Mathlib.Omega.{arith}
use Prim.Native.Nat.{◌<◌}
use Rattle.layout.specs.Parts.{count_of}
use Rattle.leaklist.proofs.Gathered.{row_none, row_turn}
use Rattle.leaklist.proofs.Most.{row_part}
use Rattle.leaklist.specs.Code.{found_in, together, row_to}
use Rattle.leaklist.proofs.found.Night.add_row.Goals as goal

pub loop-j-init : goal.loop-j-init
loop-j-init c = let g = c.args in
    (row_none g.self.now.file.now g.test.number (found_in g.found.now.triples g.found.now.counts), omega arith, omega arith)

pub add_pair-requires : goal.add_pair-requires
add_pair-requires c = let g = c.args in
    let p = c.requires in
    let l = c.loop-j in
    let file = g.self.now.file.now in
    let h : l.j < count_of file = omega (arith, c.loop-j-test.true, g.self.now.gathered.recordings) in
    let few = g.self.now.few in
    let so_far = ap (λ f. f.tested) l.invariant.0 in
    let part = row_part file g.test.number l.j (count_of file) h in
    (p.0, c.loop-j-test.true, omega (arith, c.loop-j-test.true, l.invariant.1, p.1, few), omega (arith, c.loop-j-test.true, l.invariant.2, p.2, few), omega (arith, so_far, part, p.3))

pub loop-j-preserved : goal.loop-j-preserved
loop-j-preserved c = let l = c.loop-j in
    let g = c.args in
    let a = c.add_pair.ensures in
    (row_turn g.self.now.file.now g.test.number l.j (found_in g.found.now.triples g.found.now.counts) l.invariant.0 a.0, omega (arith, a.1, l.invariant.1), omega (arith, a.2, l.invariant.2))

pub returns : goal.returns
returns c = let g = c.args in
    let l = c.loop-j in
    let few = g.self.now.few in
    let all : l.j ≡ count_of g.self.now.file.now = omega (arith, l.auto.j-end, c.loop-j-test.false, g.self.now.gathered.recordings) in
    (l.invariant.0 ∙ ap (λ n. together (found_in g.found.now.triples g.found.now.counts) (row_to g.self.now.file.now g.test.number n)) all, omega (arith, l.invariant.1, l.auto.j-end, few), omega (arith, l.invariant.2, l.auto.j-end, few))
