-- Entry k stands twelve bytes for each before it from the table on.
use native.Mathlib.Omega.{arith}
use mathlib.Core.Path.{refl, ap}
use borrow.Author.Tests.{lt-ltb, le-ltb}
use Rattle.std.proofs.Common.{Some}
use Rattle.layout.specs.Parts.{count_of, entry_place, entry_at}
use Rattle.footprint.specs.Contents.{entry_in}
use Rattle.footprint.proofs.Footprint.entry.Goals as goal

pub returns-then-k-count : goal.returns-then-k-count
unfolding entry_in entry_at entry_place
returns-then-k-count c = rw (lt-ltb c.args.k (count_of c.args.self.bytes.now) (omega (arith, c.if-k-count.true, c.count.ensures.value)), ← c.table_place.ensures.value) (ap Some c.entry_at.ensures.0)

pub returns-else-k-count : goal.returns-else-k-count
unfolding entry_in
returns-else-k-count c = rw (le-ltb c.args.k (count_of c.args.self.bytes.now) (omega (arith, c.if-k-count.false, c.count.ensures.value))) refl
