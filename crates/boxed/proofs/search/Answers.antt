-- Each turn passes over one box that shares no point; each beyond the last shares one.
use Prim.Native.Nat.{ℕ, ◌≤◌, max}
use mathlib.Core.Path.{◌≡◌, ap, ◌∙◌}
use mathlib.Core.Bool.{true}
use native.Mathlib.Omega.{arith}
use Rattle.boxes.specs.Boxes.{share_point}
use Rattle.boxed.proofs.Rows.{no_box_shares, next_turn, next_found, next_none}
use Rattle.boxed.proofs.search.Goals as goal

pub returns-then-share_point-clause-place : goal.returns-then-share_point-clause-place
returns-then-share_point-clause-place g c = let a = c.args in
    next_found (g.B.Boxes.at a.table.now) a.b a.to c.loop-k.k (c.share_point.ensures ∙ ap (share_point a.b) c.get.ensures) c.if-share_point.true c.loop-k.invariant.1

pub loop-k-preserved : goal.loop-k-preserved
loop-k-preserved g c = let a = c.args in
    (omega (arith, c.loop-k-test.true), next_turn (g.B.Boxes.at a.table.now) a.b a.to c.loop-k.k (omega (arith, c.loop-k-test.true, c.min-stop.ensures)) (c.share_point.ensures ∙ ap (share_point a.b) c.get.ensures) c.if-share_point.false c.loop-k.invariant.1)

pub returns-then-past-to-clause-place : goal.returns-then-past-to-clause-place
returns-then-past-to-clause-place g c = let a = c.args in
    let k = c.loop-k.k in
    let high = c.loop-k.invariant.0 in
    let last : c.max-past.result ≡ k = omega (arith, c.max-past.ensures, c.loop-k-test.false, c.loop-k.auto.k, high) in
    let beyond : (k : ℕ) → g.B.Boxes.many a.table.now ≤ k → share_point a.b (g.B.Boxes.at a.table.now k) ≡ true = λ k h. ap (share_point a.b) (c.many.ensures.beyond k h) ∙ no_box_shares a.b in
    last ∙ next_none (g.B.Boxes.at a.table.now) a.b a.to (g.B.Boxes.many a.table.now) k beyond (omega (arith, c.min-stop.ensures, c.many.ensures.count)) c.loop-k-test.false c.loop-k.invariant.1

pub returns-else-past-to-clause-place : goal.returns-else-past-to-clause-place
returns-else-past-to-clause-place g c = let a = c.args in
    let k = c.loop-k.k in
    let high = c.loop-k.invariant.0 in
    let last : max a.from a.to ≡ k = omega (arith, c.min-stop.ensures, c.max-past.ensures, c.if-past-to.false, c.loop-k-test.false, c.loop-k.auto.k, high) in
    let beyond : (k : ℕ) → g.B.Boxes.many a.table.now ≤ k → share_point a.b (g.B.Boxes.at a.table.now k) ≡ true = λ k h. ap (share_point a.b) (c.many.ensures.beyond k h) ∙ no_box_shares a.b in
    last ∙ next_none (g.B.Boxes.at a.table.now) a.b a.to (g.B.Boxes.many a.table.now) k beyond (omega (arith, c.min-stop.ensures, c.many.ensures.count)) c.loop-k-test.false c.loop-k.invariant.1
