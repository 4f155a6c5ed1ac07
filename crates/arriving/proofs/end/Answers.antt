-- Refused by its number, or what has arrived is judged and counted.
use Rattle.arrival.specs.Calls.{the_end}
use Rattle.arriving.proofs.Said.{refused_call, end_said}
use Rattle.arriving.proofs.end.Goals as goal

pub returns-in-Err : goal.returns-in-Err
returns-in-Err c = refused_call c.args.s c.args.buffer.now the_end c.in-Err.why c.in-Err.ensures c.refused.ensures

pub returns : goal.returns
returns c = end_said c.args.s c.args.buffer.now c.in_default.ensures c.judged-v.ensures c.count-arrived.ensures
