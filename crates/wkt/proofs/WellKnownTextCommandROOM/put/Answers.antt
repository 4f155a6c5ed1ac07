-- What is said of the file is whole, as the room has 256,546 bytes.
use mathlib.Core.Path.{sym, subst}
use Rattle.text.specs.Room.{Put}
use Rattle.listing.specs.Words.{feed, refused_line}
use Rattle.layout.specs.Verdict.{number_at}
use Rattle.wkt.specs.Answer.{output_of}
use Rattle.wkt.proofs.Fronts.{line_AtFront, text_AtFront}
use borrow.Author.Rules.{rules}
use native.Mathlib.Omega.{arith}
use Rattle.wkt.proofs.WellKnownTextCommandROOM.put.Goals as goal

pub returns-then-a-ne0 : goal.returns-then-a-ne0
unfolding output_of
returns-then-a-ne0 c = let a = c.wkt-a in
    line_AtFront c.args.self.now.id c.args.file.now c.args.room.now (omega arith) a.ensures c.if-a-ne0.true (search rules) (search rules)
    (subst (λ n. Put a.new.room 0 (refused_line (number_at a.result.number a.result.place)) c.put_refusal.new.room n) (sym c.unwrap_or.ensures) c.put_refusal.ensures.placed)

pub returns : goal.returns
unfolding output_of
returns c = let a = c.wkt-a in
    text_AtFront c.args.self.now.id c.args.file.now c.args.room.now (omega arith) a.ensures c.if-a-ne0.false
    (subst (λ n. Put a.new.room a.result.length feed c.put_bytes.new.room n) (sym c.unwrap_or-2.ensures) c.put_bytes.ensures.placed)
