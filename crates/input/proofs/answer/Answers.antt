-- What is to be said by the end's answer, or nothing.
use mathlib.Core.Path.{sym, ◌∙◌}
use Rattle.listing.specs.Words.{refused_line}
use Rattle.input.specs.Answer.{said_of}
use Rattle.input.proofs.Fronts.{of_read, of_failed}
use Rattle.input.proofs.answer.Goals as goal

pub returns-then-is_read : goal.returns-then-is_read
returns-then-is_read g c = of_read refused_line (said_of (g.C.Command.answers c.args.c.now)) c.args.buffer.now c.args.room.now c.args.g (sym c.is_read.ensures ∙ c.if-is_read.true) c.end-a.ensures c.said.ensures

pub returns : goal.returns
returns g c = of_failed refused_line (said_of (g.C.Command.answers c.args.c.now)) c.args.buffer.now c.args.room.now c.args.g (sym c.is_read.ensures ∙ c.if-is_read.false)
