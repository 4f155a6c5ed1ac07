-- A slice from its own end on is empty.
use Rattle.cases.proofs.Laws.{drop_min}
use Rattle.cases.proofs.behind.Goals as goal

pub returns : goal.returns
returns c = rw c.min.ensures (drop_min c.args.from c.args.text.now)
