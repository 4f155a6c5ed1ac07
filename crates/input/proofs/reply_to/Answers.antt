-- What is said of the file that arrived is what is to be said of the whole input.
use native.Mathlib.Omega.{arith}
use Rattle.listing.specs.Words.{refused_line}
use Rattle.input.specs.Answer.{said_of}
use Rattle.input.proofs.Fronts.{replied, of_other_length, of_any_refused}
use Rattle.input.proofs.reply_to.Goals as goal

pub returns-clause-replied : goal.returns-clause-replied
returns-clause-replied g c = λ size.
    let says = said_of (g.C.Command.answers c.args.c.now) in
    let read = c.read_all-got in
    replied refused_line says (of_any_refused (g.C.Command.answers c.args.c.now)) c.args.buffer.now read.new.buffer read.result read.ensures (omega (arith, read.auto.buffer, size)) c.answer-n.ensures

pub returns-clause-nothing : goal.returns-clause-nothing
returns-clause-nothing g c = λ other. of_other_length refused_line (said_of (g.C.Command.answers c.args.c.now)) c.args.room.now c.read_all-got.ensures other c.answer-n.ensures
