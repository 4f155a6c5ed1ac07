-- One word behind the name, and that an id.
use Rattle.words.proofs.Ids.{asked_one, asked_other}
use Rattle.words.proofs.asked.Goals as goal

pub returns-then-count-eq2 : goal.returns-then-count-eq2
returns-then-count-eq2 c = asked_one c.args.count c.args.word.now c.if-count-eq2.true c.id_of.ensures

pub returns : goal.returns
returns c = asked_other c.args.count c.args.word.now c.if-count-eq2.false
