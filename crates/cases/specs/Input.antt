-- What a reader's bytes leave in a room. Definitions only.
use Rattle.std.specs.Prelude.{ℕ, ◌<◌, ◌≤◌, List, length, take}
use Rattle.std.specs.declared.option.Option.{Option}
use Rattle.std.specs.Io.KnownBytes.{Consumes, IsAtEnd}

-- n bytes came: they are the reader's next ones, where those are known, and stand at the room's front; and they are fewer than the room holds only where the reader has no more
pub record FilledBy (before after : Option (List ℕ)) (n : ℕ) (room : List ℕ) : Type 0 where
  pub bytes : Consumes before after (take n room)
  pub to_end : n < length room → IsAtEnd after

-- where a read failed: what had come before, some number of bytes, stands there in the same way
abbrev pub CameBefore : Option (List ℕ) → Option (List ℕ) → List ℕ → Type 0
CameBefore before after room = (n : ℕ) × (n ≤ length room) × Consumes before after (take n room)
