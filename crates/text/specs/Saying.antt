-- 01, "The leak list", and 02: what is said of something that was to be written to lent room, and the room afterwards. Definitions only.
use Rattle.std.specs.Prelude.{ℕ, List, length}
use Rattle.text.specs.Room.{laid}
use Rattle.text.specs.declared.Written.{Written}

pub record WrittenAndRoom : Type 0 where
  pub result : Written
  pub room : List ℕ

-- a refusal: its number and its place, length 0, and the room as it was
abbrev pub not_written_at : List ℕ → ℕ → ℕ → WrittenAndRoom
not_written_at room number place = record { result = record { number = number; place = place; length = 0 }; room = room }

-- what was to be written stands at the front of the room, the rest of which stays, and its length is told
abbrev pub written_in : List ℕ → List ℕ → WrittenAndRoom
written_in room text = record { result = record { number = 0; place = 0; length = length text }; room = laid room 0 text }
