-- The word ends before its stop, or with the text.
use Rattle.cases.proofs.Laws.{found, not_found}
use Rattle.cases.proofs.until.Goals as goal

pub returns-in-Some : goal.returns-in-Some
returns-in-Some c = found c.args.text.now c.args.from c.args.stop c.behind-rest.ensures c.place_of.ensures c.in-Some.is

pub returns-in-None : goal.returns-in-None
returns-in-None c = not_found c.args.text.now c.args.from c.args.stop c.behind-rest.ensures c.place_of.ensures c.in-None.is
