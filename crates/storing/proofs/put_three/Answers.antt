-- Each part of the twelve bytes is written over with those of its number.
use mathlib.Core.Path.{refl}
use Rattle.text.proofs.Room.{put_as}
use Rattle.storing.proofs.put_three.Goals as goal

pub returns-clause-placed : goal.returns-clause-placed
returns-clause-placed c =
    let p = c.put_bytes.ensures.placed in
    put_as (rw (c.copy_from_slice.ensures.after, c.copy_from_slice-2.ensures.after, c.copy_from_slice-3.ensures.after, c.to_le_bytes.ensures, c.to_le_bytes-2.ensures, c.to_le_bytes-3.ensures) refl) p
