-- 02, No. 2: what the writer answers, and the room afterwards. Definitions only.
use Rattle.std.specs.Prelude.{ℕ, cond, List, eqb, length}
use Rattle.text.specs.Room.{laid}
use Rattle.filing.specs.Given.{Given}
use Rattle.filing.specs.File.{file_of}
use Rattle.filing.specs.Refusals.{refusal}
use Rattle.text.specs.Saying.{WrittenAndRoom, not_written_at, written_in}

-- a refusal: its number, at place 0
abbrev pub not_written : List ℕ → ℕ → WrittenAndRoom
not_written room number = not_written_at room number 0

unfoldable pub written : Given → List ℕ → WrittenAndRoom
unfolding refusal file_of laid
written g room = let number = refusal g (length room) in cond (eqb number 0) (written_in room (file_of g)) (not_written room number)
