-- Each turn puts one of those that are left.
use Prim.Native.Nat.{◌+◌, ◌≤◌}
use Rattle.chart.specs.Words.{comma}
use Rattle.polygons.proofs.Stores.{first_fits, next_fits, put_then}
use Rattle.showing.proofs.Polygons.{others_next, others_done}
use Rattle.showing.specs.Code.{text_at}
use Rattle.text.proofs.Room.{Put-none, put_as}
use lib.ListN.{length, get_or}
use mathlib.Core.List.{[], ◌++◌}
use mathlib.Core.Path.{sym, subst}
use Rattle.showing.proofs.put_others.Goals as goal

pub put_other-next-requires : goal.put_other-next-requires
put_other-next-requires c = let l = c.loop-bytes in
    let f = subst (λ t. l.next + length t ≤ length l.room) (others_next c.args.triangles.now l.bytes-index c.loop-bytes-test.true) l.invariant.0 in
    first_fits (comma ++ text_at (get_or c.args.triangles.now l.bytes-index [])) _ _ f

pub loop-bytes-preserved : goal.loop-bytes-preserved
loop-bytes-preserved c = let l = c.loop-bytes in
    let one = comma ++ text_at (get_or c.args.triangles.now l.bytes-index []) in
    let e = others_next c.args.triangles.now l.bytes-index c.loop-bytes-test.true in
    let f = subst (λ t. l.next + length t ≤ length l.room) e l.invariant.0 in
    (next_fits one _ c.put_other-next.ensures f, λ after q p. l.invariant.1 after q (put_as (sym e) (put_then one _ c.put_other-next.ensures f p)))

pub returns : goal.returns
returns c = let l = c.loop-bytes in
    l.invariant.1 l.room l.next (put_as (sym (others_done c.args.triangles.now l.bytes-index c.loop-bytes-test.false)) (Put-none l.room l.next))
