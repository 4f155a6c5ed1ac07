-- As many digits as the number has.
use Prim.Native.Nat.{◌/◌}
use Rattle.polygons.proofs.Numbers.{small_is, short_is, three_is}
use Rattle.polygons.proofs.Stores.{next_fits, put_then}
use Rattle.text.proofs.Laws.{width_small, width_is}
use Rattle.text.proofs.Room.{put_as}
use Rattle.text.specs.Code.{digits}
use native.Mathlib.Omega.{arith}
use Rattle.polygons.proofs.put_short.Goals as goal

pub put_one-requires : goal.put_one-requires
put_one-requires c = let w = width_small c.args.w c.if-w-lt10.true in omega (arith, w, c.requires.1)

pub returns-then-w-lt10 : goal.returns-then-w-lt10
returns-then-w-lt10 c = put_as (small_is c.args.w c.if-w-lt10.true) c.put_one.ensures

pub put_two-requires : goal.put_two-requires
put_two-requires c = let w = width_is 1 c.args.w c.if-w-lt10.false c.if-w-lt100.true in omega (arith, w, c.requires.1)

pub returns-then-w-lt100 : goal.returns-then-w-lt100
returns-then-w-lt100 c = put_as (short_is 1 c.args.w c.if-w-lt10.false c.if-w-lt100.true) c.put_two.ensures

pub put_one-p-requires : goal.put_one-p-requires
put_one-p-requires c = let w = width_is 2 c.args.w c.if-w-lt100.false c.if-w-lt1000.true in omega (arith, w, c.requires.1)

pub put_two-requires-then-w-lt1000 : goal.put_two-requires-then-w-lt1000
unfolding digits
put_two-requires-then-w-lt1000 c = let w = width_is 2 c.args.w c.if-w-lt100.false c.if-w-lt1000.true in
    next_fits (digits 1 (c.args.w / 100)) (digits 2 c.args.w) c.put_one-p.ensures (omega (arith, w, c.requires.1))

pub returns-then-w-lt1000 : goal.returns-then-w-lt1000
unfolding digits
returns-then-w-lt1000 c = let w = width_is 2 c.args.w c.if-w-lt100.false c.if-w-lt1000.true in
    put_as (three_is c.args.w c.if-w-lt100.false c.if-w-lt1000.true) (put_then (digits 1 (c.args.w / 100)) (digits 2 c.args.w) c.put_one-p.ensures (omega (arith, w, c.requires.1)) c.put_two-then-w-lt1000.ensures)

pub put_four-requires : goal.put_four-requires
put_four-requires c = let w = width_is 3 c.args.w c.if-w-lt1000.false c.requires.0 in omega (arith, w, c.requires.1)

pub returns : goal.returns
returns c = put_as (short_is 3 c.args.w c.if-w-lt1000.false c.requires.0) c.put_four.ensures
