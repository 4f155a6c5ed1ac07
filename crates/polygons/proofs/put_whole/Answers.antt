-- Digits of a number below ten thousand, or four behind such a number.
use Prim.Native.Nat.{◌/◌, ◌+◌, ◌≤◌}
use Rattle.polygons.proofs.Numbers.{long_is, ten_thousand_is}
use Rattle.polygons.proofs.Stores.{first_fits, next_fits, put_then}
use Rattle.text.proofs.Laws.{width_is}
use Rattle.text.proofs.Room.{put_as}
use Rattle.text.specs.Code.{digits}
use Rattle.text.specs.Decimal.{decimal}
use lib.ListN.{length}
use mathlib.Core.Path.{sym, ap, subst, ◌∙◌}
use native.Mathlib.Omega.{arith}
use Rattle.polygons.proofs.put_whole.Goals as goal

pub put_bytes-requires : goal.put_bytes-requires
put_bytes-requires c = let w = width_is 4 c.args.w (omega (arith, c.if-w-eq10000.true)) (omega (arith, c.if-w-eq10000.true)) in (omega arith, omega (arith, w, c.requires.1))

pub returns-then-w-eq10000 : goal.returns-then-w-eq10000
returns-then-w-eq10000 c = put_as (ten_thousand_is ∙ ap decimal (sym c.if-w-eq10000.true)) c.put_bytes.ensures

pub put_short-p-requires : goal.put_short-p-requires
put_short-p-requires c = let f = subst (λ t. c.args.at + length t ≤ length c.args.room.now) (sym (long_is c.args.w c.if-w-lt10000.false)) c.requires.1 in
    (omega (arith, c.requires.0), first_fits (decimal (c.args.w / 10000)) (digits 4 c.args.w) _ f)

pub put_four-requires : goal.put_four-requires
unfolding digits
put_four-requires c = let f = subst (λ t. c.args.at + length t ≤ length c.args.room.now) (sym (long_is c.args.w c.if-w-lt10000.false)) c.requires.1 in
    next_fits (decimal (c.args.w / 10000)) (digits 4 c.args.w) c.put_short-p.ensures f

pub returns : goal.returns
returns c = let f = subst (λ t. c.args.at + length t ≤ length c.args.room.now) (sym (long_is c.args.w c.if-w-lt10000.false)) c.requires.1 in
    put_as (long_is c.args.w c.if-w-lt10000.false) (put_then (decimal (c.args.w / 10000)) (digits 4 c.args.w) c.put_short-p.ensures f c.put_four.ensures)
