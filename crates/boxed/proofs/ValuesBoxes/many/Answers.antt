-- Beyond the end each is without ends.
use Rattle.boxed.proofs.Rows.{box_beyond}
use Rattle.boxed.proofs.ValuesBoxes.many.Goals as goal

pub returns-clause-beyond : goal.returns-clause-beyond
returns-clause-beyond c = box_beyond c.args.self.now.0.now
