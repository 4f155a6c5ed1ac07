-- The list, or the line of its refusal.
use mathlib.Core.Path.{sym, subst}
use Rattle.text.specs.Room.{Put}
use Rattle.layout.specs.Verdict.{number_at}
use Rattle.listing.specs.Words.{refused_line}
use Rattle.leaklist.proofs.Written.{told_refused, told_list}
use Rattle.leaklist.proofs.told.Goals as goal

pub returns-then-a-ne0 : goal.returns-then-a-ne0
returns-then-a-ne0 c = let g = c.args in
    let a = c.leaks-a.result in
    told_refused g.file.now g.room.now c.leaks-a.ensures c.if-a-ne0.true (subst (Put c.leaks-a.new.room 0 (refused_line (number_at a.number a.place)) c.put_refusal.new.room) (sym c.unwrap_or.ensures) c.put_refusal.ensures.placed)

pub returns : goal.returns
returns c = let g = c.args in told_list g.file.now g.room.now c.leaks-a.ensures c.if-a-ne0.false
