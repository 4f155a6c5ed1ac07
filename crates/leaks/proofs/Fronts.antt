-- What is told of a file stands whole at the front of a room of 65,536 bytes. Assumes nothing.
use Prim.Native.Nat.{ℕ, ◌≤◌}
use mathlib.Core.List.{List}
use lib.ListN.{length}
use Rattle.text.specs.Room.{Put}
use Rattle.text.proofs.Room.{put_as}
use Rattle.layout.specs.Bytes.{Bytes}
use Rattle.listing.specs.Words.{list_text}
use Rattle.listing.specs.Listing.{output_of}
use Rattle.leaklist.specs.Code.{told_of}
use Rattle.leaklist.proofs.Whole.{told_whole}
use Rattle.input.specs.Answer.{AtFront, said_of}

-- what is told of any bytes is what is to be said of them, and fits
pub told_AtFront : (file room : List ℕ) {after : List ℕ} {n : ℕ} → Bytes file → 65536 ≤ length room → Put room 0 (told_of file room) after n → AtFront (said_of list_text file) room n after
unfolding output_of
told_AtFront file room {after} {n} bytes large p =
    let s = told_whole file room bytes large in
    record { put = put_as s.whole p; fits = s.fits }
