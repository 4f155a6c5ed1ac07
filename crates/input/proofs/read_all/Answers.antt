-- Each turn's bytes are a piece of the run so far, and they are some, so that the count grows; or the turn is the last.
use Rattle.std.proofs.Common.{rules}
use Prim.Native.Nat.{ℕ, ◌+◌, ◌<◌, min}
use mathlib.Core.Path.{◌≡◌, sym, ap, ◌∙◌}
use mathlib.Core.List.{List}
use native.Mathlib.Omega.{arith}
use lib.ListN.{length, take}
use lib.Seq.{length-take-le}
use Rattle.arrival.proofs.Further.{none_so_far, counted_on, one_more}
use Rattle.input.specs.declared.Piece.{Piece}
use Rattle.input.specs.declared.Piece.TheVariants.{More}
use Rattle.input.proofs.Within.{more_within}
use Rattle.input.specs.Answer.{Took}
use Rattle.input.proofs.read_all.Goals as goal

-- what a read that brought bytes brought: some, as many as are handed over
brought : (part : List ℕ) {k : ℕ} {t : Piece} → Took (length part) t → t ≡ More k → (0 < k) × (length (take k part) ≡ k)
brought part {k} t e =
    let h = more_within (length part) t.0 k (sym t.2 ∙ e) in
    (h.0, length-take-le k part h.1)

pub loop-arrived-init : goal.loop-arrived-init
loop-arrived-init g c = (none_so_far _, search rules, omega arith)

pub loop-arrived-smaller : goal.loop-arrived-smaller
loop-arrived-smaller g c =
    let l = c.loop-arrived in
    let b = brought c.read_some-last.new.part c.read_some-last.ensures c.in-More.is in
    let n = counted_on c.if-buffer-ne-SIZE.false l.invariant.0 c.handed-a.ensures ∙ ap (λ n. min (l.arrived + n) 65537) b.1 in
    let some = b.0 in
    omega (arith, some, n, c.loop-arrived-test.true)

pub loop-arrived-preserved : goal.loop-arrived-preserved
loop-arrived-preserved g c =
    let l = c.loop-arrived in
    let b = brought c.read_some-last.new.part c.read_some-last.ensures c.in-More.is in
    let n = counted_on c.if-buffer-ne-SIZE.false l.invariant.0 c.handed-a.ensures ∙ ap (λ n. min (l.arrived + n) 65537) b.1 in
    let kept = c.read_some-last.auto.part in
    (one_more c.if-buffer-ne-SIZE.false l.invariant.0 c.handed-a.ensures, omega (arith, kept, l.invariant.1), omega (arith, n))
