-- The buffer has the length that it must have, and what the command says is what is to be said.
use native.Mathlib.Omega.{arith}
use Rattle.listing.specs.Listing.{output_of}
use Rattle.leaks.proofs.reply_to.Goals as goal

pub returns : goal.returns
unfolding output_of
returns g c = c.reply_to.ensures.replied (omega arith)
