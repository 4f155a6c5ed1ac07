-- A good file has a trailer, which has the table's place.
use native.Mathlib.Omega.{arith}
use Rattle.layout.specs.Parts.{table_place}
use Rattle.footprint.proofs.Good.{fits}
use Rattle.footprint.proofs.Footprint.table_place.Goals as goal

pub overflow_sub-self : goal.overflow_sub-self
overflow_sub-self c = let f = fits c.args.self.bytes.now c.args.self.good in omega (arith, f.filled)

pub returns-clause-value : goal.returns-clause-value
unfolding table_place
returns-clause-value c = c.u32_at.ensures

pub returns-clause-inside : goal.returns-clause-inside
returns-clause-inside c = let f = fits c.args.self.bytes.now c.args.self.good in let n = returns-clause-value c in omega (arith, f.filled, n)
