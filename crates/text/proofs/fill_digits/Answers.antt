-- The digits that are left to put, with the room behind them, are all of them.
use mathlib.Core.Path.{◌≡◌, ap, ◌∙◌}
use mathlib.Core.List.{◌++◌, append-nil}
use native.Mathlib.Omega.{arith}
use lib.ListN.{length}
use lib.Seq.{drop-length}
use Rattle.text.specs.Code.{digits}
use Rattle.text.proofs.Laws.{digits_turn, digits_none}
use Rattle.text.proofs.fill_digits.Goals as goal

pub loop-i-init : goal.loop-i-init
loop-i-init c = let g = c.args in ap (λ r. digits (length g.room.now) g.n ++ r) (drop-length g.room.now) ∙ append-nil (digits (length g.room.now) g.n)

pub loop-i-preserved : goal.loop-i-preserved
loop-i-preserved c = let l = c.loop-i in
    digits_turn l.room l.i l.m c.digit.result c.loop-i-test.true (omega arith) c.digit.ensures ∙ l.invariant

pub returns : goal.returns
returns c = let l = c.loop-i in
    let z : l.i ≡ 0 = omega arith in
    rw (z, digits_none) at l.invariant
