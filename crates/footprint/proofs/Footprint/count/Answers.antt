-- A good file has a trailer, which has the count.
use native.Mathlib.Omega.{arith}
use Rattle.layout.specs.Parts.{count_of}
use Rattle.footprint.proofs.Good.{fits}
use Rattle.footprint.proofs.Footprint.count.Goals as goal

pub overflow_sub-self : goal.overflow_sub-self
overflow_sub-self c = let f = fits c.args.self.bytes.now c.args.self.good in omega (arith, f.filled)

pub returns-clause-value : goal.returns-clause-value
unfolding count_of
returns-clause-value c = c.u32_at.ensures

pub returns-clause-most : goal.returns-clause-most
returns-clause-most c = let f = fits c.args.self.bytes.now c.args.self.good in let n = returns-clause-value c in omega (arith, f.at_most64, n)
