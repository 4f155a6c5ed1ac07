-- A count above what is left is above every sum that would do.
use Prim.Native.Nat.{◌/◌, ◌<◌}
use lib.ListN.{length}
use mathlib.Core.Path.{◌≡◌, refl}
use native.Mathlib.Omega.{arith}
use Rattle.std.proofs.lemmas.Result.{err_from_is_err_and}
use Rattle.filing.specs.Given.{sum_of}
use Rattle.refusing.proofs.Turns.{too_many, one_less}
use Rattle.refusing.specs.declared.WriteRefusal.TheVariants.{Unequal}
use Rattle.refusing.proofs.adds_up.Goals as goal

pub loop-count-init : goal.loop-count-init
loop-count-init c = unfold sum_of in omega arith

pub returns-in_err-left : goal.returns-in_err-left
returns-in_err-left c =
    let l = c.loop-count in
    let g = c.args.lists in
    let p = err_from_is_err_and c.from_residual.result c.from_residual.ensures.1 in
    let none = c.in_err-left.ensures.ok_part in
    let v = rw none at c.in_err-left.ensures.value in
    let why : c.in_err-left.field-0.0 ≡ Unequal = cc in
    let above = rw none at c.checked_sub.ensures in
    let last : l.count-index < length g.ids.now = omega (arith, g.as_many_counts) in
    rw (p.1, p.2, why, ← too_many g.counts.now (length g.ids.now) l.count-index l.left (length g.numbers.now / 6) l.invariant last (omega (arith, above))) refl

pub loop-count-preserved : goal.loop-count-preserved
loop-count-preserved c =
    let l = c.loop-count in
    let g = c.args.lists in
    let k = rw c.in_ok-left.ensures.ok_part at c.checked_sub.ensures in
    rw k.1 (one_less g.counts.now (length g.ids.now) l.count-index l.left (length g.numbers.now / 6) l.invariant k.0)
