-- The table passes the test.
use Rattle.table.specs.declared.TheConstants.{TABLE}
use Rattle.table.specs.Table.{number_in}
use Rattle.table.proofs.Entries.{right, in_right}
use Rattle.table.proofs.entry_at.Goals as goal

pub returns : goal.returns
unfolding right number_in
returns c = in_right TABLE tt c.args.i c.requires
