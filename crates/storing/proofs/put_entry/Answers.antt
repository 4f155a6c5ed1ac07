-- The twelve bytes are those of the entry, and they are put.
use mathlib.Core.Path.{refl}
use Rattle.text.proofs.Room.{put_as}
use Rattle.filing.specs.File.{entry_bytes}
use Rattle.storing.proofs.put_entry.Goals as goal

pub returns-clause-placed : goal.returns-clause-placed
unfolding entry_bytes
returns-clause-placed c =
    let p = c.put_bytes.ensures.placed in
    put_as (rw (c.to_le_bytes.ensures, c.to_le_bytes-2.ensures, c.to_le_bytes-3.ensures, c.to_le_bytes-4.ensures, c.to_le_bytes-5.ensures) refl) p
