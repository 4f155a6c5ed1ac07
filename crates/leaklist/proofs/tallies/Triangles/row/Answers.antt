-- Each turn counts one more pair that is near, and those before it add nothing.
use Prim.Native.Nat.{◌+◌, ◌-◌, max}
use mathlib.Core.Path.{◌≡◌, refl, ap, ◌∙◌}
use native.Mathlib.Omega.{arith}
use Rattle.listing.specs.Pairs.{tallied}
use Rattle.listing.specs.Turns.{folded}
use Rattle.leaklist.specs.Code.{row_in}
use Rattle.leaklist.proofs.Counted.{ready_from, row_start, row_on, row_turn}
use Rattle.leaklist.proofs.tallies.Triangles.row.Goals as goal

pub loop-k-init : goal.loop-k-init
loop-k-init c =
    let g = c.args in
    let p = c.requires in
    let t = g.self.now in
    (omega arith, omega arith, row_start t.shapes.now t.bounds.now g.i g.j g.n (t.ready g.i p.0) (ready_from g.j g.n t.ready p.1) g.t, omega arith, omega arith, omega arith)

pub tallied-sum-requires : goal.tallied-sum-requires
tallied-sum-requires c =
    let g = c.args in
    let p = c.requires in
    let t = g.self.now in
    let l = c.loop-k in
    let o = row_on t.shapes.now t.bounds.now g.i g.j g.n (t.ready g.i p.0) (ready_from g.j g.n t.ready p.1) g.t l.from l.invariant.0 l.invariant.1 refl l.invariant.2 c.in-Some.ensures.place in
    let h = c.in-Some.ensures.before in
    (omega (arith, l.invariant.0, l.invariant.3, h, o.0, p.2), omega (arith, l.invariant.0, l.invariant.4, h, o.0, p.3), omega (arith, l.invariant.0, l.invariant.5, h, o.0, p.4))

pub loop-k-smaller : goal.loop-k-smaller
loop-k-smaller c =
    let g = c.args in
    let p = c.requires in
    let t = g.self.now in
    let l = c.loop-k in
    let o = row_on t.shapes.now t.bounds.now g.i g.j g.n (t.ready g.i p.0) (ready_from g.j g.n t.ready p.1) g.t l.from l.invariant.0 l.invariant.1 refl l.invariant.2 c.in-Some.ensures.place in
    omega (arith, o.0, c.in-Some.ensures.before)

pub loop-k-preserved : goal.loop-k-preserved
loop-k-preserved c =
    let g = c.args in
    let p = c.requires in
    let t = g.self.now in
    let l = c.loop-k in
    let o = row_on t.shapes.now t.bounds.now g.i g.j g.n (t.ready g.i p.0) (ready_from g.j g.n t.ready p.1) g.t l.from l.invariant.0 l.invariant.1 refl l.invariant.2 c.in-Some.ensures.place in
    let h = c.in-Some.ensures.before in
    let r = c.tallied-sum.ensures in
    let turn = row_turn t.shapes.now t.bounds.now g.i g.j g.n (t.ready g.i p.0) (ready_from g.j g.n t.ready p.1) g.t c.in-Some.k (omega (arith, o.0, l.invariant.0)) h refl refl (o.3 h) c.by_rules.ensures o.2 r.0 in
    (omega (arith, o.0, l.invariant.0), omega (arith, h), turn, omega (arith, r.1, l.invariant.3, l.invariant.0, o.0), omega (arith, r.2, l.invariant.4, l.invariant.0, o.0), omega (arith, r.3, l.invariant.5, l.invariant.0, o.0))

pub returns : goal.returns
returns c =
    let g = c.args in
    let p = c.requires in
    let t = g.self.now in
    let l = c.loop-k in
    let o = row_on t.shapes.now t.bounds.now g.i g.j g.n (t.ready g.i p.0) (ready_from g.j g.n t.ready p.1) g.t l.from l.invariant.0 l.invariant.1 refl l.invariant.2 c.in_default.ensures.place in
    let all : max l.from (g.j + g.n) - g.j ≡ g.n = omega (arith, l.invariant.1) in
    (o.2 ∙ ap (λ m. folded tallied g.t (row_in t.shapes.now g.i g.j m)) all, omega (arith, l.invariant.3, l.invariant.1), omega (arith, l.invariant.4, l.invariant.1), omega (arith, l.invariant.5, l.invariant.1))
