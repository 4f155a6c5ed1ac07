-- 01, "The leak list", with 02, No. 1, No. 3 and No. 7: the list in lent room, refusal 7, and what the program writes. Definitions only.
use Rattle.std.specs.Prelude.{ℕ, cond, List, ltb, length}
use Rattle.text.specs.Room.{laid}
use Rattle.layout.specs.declared.Verdict.{Verdict}
use Rattle.layout.specs.Verdict.{number_at}
use Rattle.layout.specs.Recordings.{unless_refused}
use Rattle.listing.specs.declared.Listed.{Listed}
use Rattle.listing.specs.Leaks.{Leak, leaks, Beside, beside}
use Rattle.listing.specs.Words.{text_of, list_text, refused_line}

-- what is answered, and the room afterwards
pub record ListAndRoom : Type 0 where
  pub result : Listed
  pub room : List ℕ

-- a refusal: its number and place, all else zero, and the room as it was
abbrev pub no_list : List ℕ → Verdict → ListAndRoom
no_list room v = record { result = record { number = v.number; place = v.place; length = 0; leaks = 0; touching = 0; tested = 0; formerly_held_back = 0 }; room = room }

-- the room is shorter than the whole list
abbrev pub too_short : Verdict
too_short = number_at 7 0

-- a list: its length, how many leaks it has and what is counted beside them are told, and it stands at the front of the room, the rest of which stays
abbrev pub list_in : List ℕ → List ℕ → ℕ → Beside → ListAndRoom
list_in room text k b = record { result = record { number = 0; place = 0; length = length text; leaks = k; touching = b.touching; tested = b.tested; formerly_held_back = b.formerly_held_back }; room = laid room 0 text }

-- of these leaks and what is counted beside them: the list in the room, or refusal 7 where the room is shorter. How many pairs were tested is no part of the text
unfoldable pub list_from : List Leak → Beside → List ℕ → ListAndRoom
unfolding text_of laid
list_from ls b room = let text = text_of ls b.touching b.formerly_held_back in cond (ltb (length room) (length text)) (no_list room too_short) (list_in room text (length ls) b)

-- the file's own refusals first, then 7, then the list
unfoldable pub list_of : List ℕ → List ℕ → ListAndRoom
unfolding unless_refused list_from leaks beside
list_of file room = unless_refused file (no_list room) (list_from (leaks file) (beside file) room)

-- what the program writes: the list, or one line that says how the file is refused
unfoldable pub output_of : List ℕ → List ℕ
unfolding unless_refused list_text refused_line
output_of file = unless_refused file refused_line (list_text file)
