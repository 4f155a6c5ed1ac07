-- Each turn widens the box by one more.
use mathlib.Core.Path.{◌∙◌}
use Rattle.boxed.proofs.Rows.{over_none, over_turn}
use Rattle.boxed.proofs.widened.Goals as goal

pub loop-b-init : goal.loop-b-init
loop-b-init g c = let a = c.args in c.box_of-sum.ensures ∙ over_none (g.B.Boxes.at a.table.now) a.j

pub loop-b-preserved : goal.loop-b-preserved
loop-b-preserved g c = let l = c.loop-b in
    let a = c.args in
    over_turn (g.B.Boxes.at a.table.now) a.j l.b l.invariant c.box_of.ensures c.around-sum.ensures
