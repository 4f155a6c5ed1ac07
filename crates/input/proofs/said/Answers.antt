-- Of a refused file its line, which is short; else what is to be said of the front of the buffer.
use native.Mathlib.Omega.{arith}
use borrow.Author.Rules.{rules}
use mathlib.Core.Path.{sym, subst}
use Rattle.text.specs.Room.{Put}
use Rattle.listing.specs.Words.{refused_line}
use Rattle.layout.specs.Verdict.{number_at}
use Rattle.wording.proofs.Lines.{refused_short}
use Rattle.input.specs.Answer.{AtFront, said_of}
use Rattle.input.proofs.Fronts.{of_refused, of_good}
use Rattle.input.proofs.said.Goals as goal

pub returns-then-a-ne0 : goal.returns-then-a-ne0
returns-then-a-ne0 g c =
    let a = c.args.a in
    let room = c.args.room.now in
    let short = refused_short a.number a.place (search rules) (search rules) in
    let large = g.met.C.Command.has_room in
    of_refused refused_line (said_of (g.C.Command.answers c.args.c.now)) c.args.buffer.now room a c.if-a-ne0.true (record { put = subst (λ n. Put room 0 (refused_line (number_at a.number a.place)) c.put_refusal.new.room n) (sym c.unwrap_or.ensures) c.put_refusal.ensures.placed; fits = omega (arith, short, large) })

pub returns : goal.returns
returns g c =
    let says = said_of (g.C.Command.answers c.args.c.now) in
    of_good refused_line says c.args.buffer.now c.args.room.now c.args.a c.if-a-ne0.false
    (subst (λ f. AtFront (says f) c.args.room.now c.put.result c.put.new.room) c.front.ensures c.put.ensures)
