-- Texts are compared byte by byte.
use mathlib.Core.Path.{◌∙◌}
use Rattle.words.proofs.Ids.{pointwise_is}
use Rattle.words.proofs.same.Goals as goal

pub returns : goal.returns
returns c = c.eq.ensures ∙ pointwise_is c.args.a.now c.args.b.now
