-- The numbers, the table and the trailer, one behind the other, in a room that holds them.
use native.Mathlib.Omega.{arith}
use Rattle.filing.specs.Lists.{given}
use Rattle.filer.proofs.Files.{table_small, table_fits, trailer_fits, whole_file}
use Rattle.filer.proofs.put_file.Goals as goal

pub put_table-q-requires-clause-small : goal.put_table-q-requires-clause-small
put_table-q-requires-clause-small c = table_small (given c.args.lists) c.args.room.now c.requires

pub put_table-q-requires-clause-fits : goal.put_table-q-requires-clause-fits
put_table-q-requires-clause-fits c =
    let p = rw c.unwrap-p.ensures at c.put_numbers.ensures.placed in
    omega (arith, table_fits (given c.args.lists) c.args.room.now c.requires p)

pub unwrap-requires : goal.unwrap-requires
unwrap-requires c =
    let p = rw c.unwrap-p.ensures at c.put_numbers.ensures.placed in
    c.put_three.ensures.fits.1 (trailer_fits (given c.args.lists) c.args.room.now c.requires p c.put_table-q.ensures)

pub returns : goal.returns
returns c =
    let p = rw c.unwrap-p.ensures at c.put_numbers.ensures.placed in
    let q = rw c.unwrap.ensures at c.put_three.ensures.placed in
    whole_file (given c.args.lists) c.args.room.now c.requires p c.put_table-q.ensures q
