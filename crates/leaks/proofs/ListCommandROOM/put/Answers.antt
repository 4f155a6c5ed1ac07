-- What is told of the file is whole, as the room has 65,536 bytes.
use native.Mathlib.Omega.{arith}
use borrow.Author.Rules.{rules}
use Rattle.leaks.proofs.Fronts.{told_AtFront}
use Rattle.leaks.proofs.ListCommandROOM.put.Goals as goal

pub returns : goal.returns
returns c = told_AtFront c.args.file.now c.args.room.now (λ k. search rules) (omega arith) c.told.ensures
