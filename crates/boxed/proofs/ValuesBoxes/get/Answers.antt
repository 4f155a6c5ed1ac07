-- Read where it is there.
use mathlib.Core.Path.{sym, ◌∙◌}
use Rattle.boxed.proofs.Rows.{box_there}
use Rattle.boxed.proofs.ValuesBoxes.get.Goals as goal

pub returns : goal.returns
returns c = let g = c.args in c.box_from.ensures ∙ sym (box_there g.self.now.0.now g.k c.requires)
