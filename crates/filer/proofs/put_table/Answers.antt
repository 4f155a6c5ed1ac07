-- Before each turn the entries so far stand in the room, and the next one's triangles begin where theirs end.
use lib.ListN.{length, get_or}
use mathlib.Core.Path.{refl}
use native.Mathlib.Omega.{arith}
use mir.Val.{Fits}
use mir.Syntax.{w8}
use Rattle.std.proofs.Common.{rules}
use Rattle.filing.specs.Given.{sum_of}
use Rattle.filing.specs.Lists.{given}
use Rattle.filer.proofs.Tables.{no_entries, next_at, one_more, all_entries, next_first}
use Rattle.filer.proofs.put_table.Goals as goal

pub loop-i-init : goal.loop-i-init
loop-i-init c = (unfold sum_of in refl, no_entries (given c.args.lists) c.args.room.now c.args.at)

pub unwrap-to-requires : goal.unwrap-to-requires
unwrap-to-requires c =
    let l = c.loop-i in
    let n = next_at (given c.args.lists) c.args.room.now c.args.at l.i l.invariant.1 (omega arith) in
    c.put_entry.ensures.fits.1 (omega (arith, n.0, n.1))

pub overflow_mul-first : goal.overflow_mul-first
overflow_mul-first c =
    let l = c.loop-i in
    let g = c.args.lists in
    omega (arith, (next_first g.counts.now (length g.ids.now) l.i l.first c.loop-i-test.true l.invariant.0 c.requires.small).0)

pub overflow_add-first : goal.overflow_add-first
overflow_add-first c =
    let l = c.loop-i in
    let g = c.args.lists in
    omega (arith, (next_first g.counts.now (length g.ids.now) l.i l.first c.loop-i-test.true l.invariant.0 c.requires.small).0)

pub loop-i-preserved : goal.loop-i-preserved
loop-i-preserved c =
    let l = c.loop-i in
    let g = c.args.lists in
    let s : Fits w8 (get_or g.sets.now l.i 0) = search rules in
    let t : Fits w8 (get_or g.lasts.now l.i 0) = search rules in
    let p = rw c.unwrap-to.ensures at c.put_entry.ensures.placed in (
      (next_first g.counts.now (length g.ids.now) l.i l.first c.loop-i-test.true l.invariant.0 c.requires.small).1,
      one_more (given g) c.args.room.now c.args.at l.i l.first _ _ (omega arith) l.invariant.0 c.from.ensures (omega (arith, s)) c.from-in-loop-i.ensures (omega (arith, t)) l.invariant.1 p,
    )

pub returns : goal.returns
returns c = let l = c.loop-i in all_entries (given c.args.lists) c.args.room.now c.args.at l.i (omega arith) l.invariant.1
