-- Each turn counts one more row, and those before it add nothing.
use Prim.Native.Nat.{◌+◌, ◌-◌, ◌/◌, ◌≤◌, max}
use mathlib.Core.Path.{◌≡◌, ap, ◌∙◌}
use native.Mathlib.Omega.{arith}
use Rattle.leaklist.specs.Code.{tally_in}
use Rattle.leaklist.proofs.Counted.{ready_from, tally_same, tally_start, tally_on, tally_turn}
use Rattle.leaklist.proofs.tallies.Triangles.tally.Goals as goal

pub loop-a-init : goal.loop-a-init
loop-a-init c =
    let g = c.args in
    let p = c.requires in
    let t = g.self.now in
    let i = g.e.first / 24 in
    let j = g.f.first / 24 in
    let d = c.default-sum.ensures in
    (omega arith, omega arith, tally_same d.0 d.1.0 d.1.1.0 d.1.1.1.0 d.1.1.1.1 ∙ tally_start t.shapes.now t.bounds.now i g.e.count j g.f.count (ready_from i g.e.count t.ready p.0) (ready_from j g.f.count t.ready p.1), omega (arith, d.0), omega (arith, d.1.0), omega (arith, d.1.1.0))

pub row-sum-requires : goal.row-sum-requires
row-sum-requires c =
    let g = c.args in
    let p = c.requires in
    let t = g.self.now in
    let l = c.loop-a in
    let i = g.e.first / 24 in
    let j = g.f.first / 24 in
    let o = tally_on t.shapes.now t.bounds.now i g.e.count j g.f.count (ready_from i g.e.count t.ready p.0) (ready_from j g.f.count t.ready p.1) l.from l.invariant.0 l.invariant.1 p.2 l.invariant.2 c.in-Some.ensures.place in
    let h = c.in-Some.ensures.before in
    let most = t.most in
    (omega (arith, p.0, h), p.1, omega (arith, p.0, p.1, most, l.invariant.3, l.invariant.0, o.0, h), omega (arith, p.0, p.1, most, l.invariant.4, l.invariant.0, o.0, h), omega (arith, p.0, p.1, most, l.invariant.5, l.invariant.0, o.0, h))

pub loop-a-smaller : goal.loop-a-smaller
loop-a-smaller c =
    let g = c.args in
    let p = c.requires in
    let t = g.self.now in
    let l = c.loop-a in
    let i = g.e.first / 24 in
    let j = g.f.first / 24 in
    let o = tally_on t.shapes.now t.bounds.now i g.e.count j g.f.count (ready_from i g.e.count t.ready p.0) (ready_from j g.f.count t.ready p.1) l.from l.invariant.0 l.invariant.1 p.2 l.invariant.2 c.in-Some.ensures.place in
    omega (arith, o.0, c.in-Some.ensures.before)

pub loop-a-preserved : goal.loop-a-preserved
loop-a-preserved c =
    let g = c.args in
    let p = c.requires in
    let t = g.self.now in
    let l = c.loop-a in
    let i = g.e.first / 24 in
    let j = g.f.first / 24 in
    let o = tally_on t.shapes.now t.bounds.now i g.e.count j g.f.count (ready_from i g.e.count t.ready p.0) (ready_from j g.f.count t.ready p.1) l.from l.invariant.0 l.invariant.1 p.2 l.invariant.2 c.in-Some.ensures.place in
    let h = c.in-Some.ensures.before in
    let r = c.row-sum.ensures in
    let most = t.most in
    let low : i ≤ c.in-Some.a = omega (arith, o.0, l.invariant.0) in
    (omega (arith, low), omega (arith, h), tally_turn t.shapes.now t.bounds.now i g.e.count j g.f.count (ready_from i g.e.count t.ready p.0) (ready_from j g.f.count t.ready p.1) c.in-Some.a low o.2 r.0, omega (arith, r.1, l.invariant.3, l.invariant.0, o.0, p.1, most), omega (arith, r.2, l.invariant.4, l.invariant.0, o.0, p.1, most), omega (arith, r.3, l.invariant.5, l.invariant.0, o.0, p.1, most))

pub returns : goal.returns
returns c =
    let g = c.args in
    let p = c.requires in
    let t = g.self.now in
    let l = c.loop-a in
    let i = g.e.first / 24 in
    let j = g.f.first / 24 in
    let o = tally_on t.shapes.now t.bounds.now i g.e.count j g.f.count (ready_from i g.e.count t.ready p.0) (ready_from j g.f.count t.ready p.1) l.from l.invariant.0 l.invariant.1 p.2 l.invariant.2 c.in_default.ensures.place in
    let all : max l.from (i + g.e.count) - i ≡ g.e.count = omega (arith, l.invariant.1) in
    o.2 ∙ ap (λ m. tally_in t.shapes.now i m j g.f.count) all
