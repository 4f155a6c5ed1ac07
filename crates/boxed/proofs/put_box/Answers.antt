-- Four stores, or none.
use mathlib.Core.Path.{refl, sym}
use borrow.Author.Tests.{lt-ltb, le-ltb}
use Rattle.boxed.specs.Tables.{table_with}
use Rattle.boxed.proofs.put_box.Goals as goal

pub returns-then-k-table : goal.returns-then-k-table
unfolding table_with
returns-then-k-table c = sym (rw (lt-ltb _ _ c.if-k-table.true) refl)

pub returns-else-k-table : goal.returns-else-k-table
unfolding table_with
returns-else-k-table c = sym (rw (le-ltb _ _ c.if-k-table.false) refl)
