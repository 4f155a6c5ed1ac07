-- Of the six positions come d, e and the parameters.
use Rattle.routine.proofs.Entry.{all_given}
use Rattle.routine.proofs.start_of.Goals as goal

pub returns : goal.returns
returns c = all_given c.args.values.now c.pair_of.ensures c.cross_from-d.ensures c.cross_from.ensures c.params_of.ensures c.params_of-2.ensures c.params_of-3.ensures
