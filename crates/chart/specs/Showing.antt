-- 02, No. 6: a recording's text in lent room, and refusals 20 and 21. Definitions only.
use Rattle.std.specs.Prelude.{ℕ, cond, List, ltb, length}
use Rattle.text.specs.Room.{laid}
use Rattle.text.specs.Saying.{WrittenAndRoom, not_written_at, written_in}
use Rattle.layout.specs.declared.Verdict.{Verdict}
use Rattle.layout.specs.Parts.{count_of}
use Rattle.layout.specs.Verdict.{number_at}
use Rattle.layout.specs.Recordings.{unless_refused}
use Rattle.chart.specs.Recorded.{number_with, recording_text}

-- a refusal: its number and place, length 0, and the room as it was
abbrev pub no_text : List ℕ → Verdict → WrittenAndRoom
no_text room v = not_written_at room v.number v.place

-- no recording has the id
abbrev pub no_such_id : Verdict
no_such_id = number_at 21 0

-- the room is shorter than the whole text
abbrev pub too_short : Verdict
too_short = number_at 20 0

-- a text in the room, or refusal 20
unfoldable pub shown_in : List ℕ → List ℕ → WrittenAndRoom
unfolding laid
shown_in room text = cond (ltb (length room) (length text)) (no_text room too_short) (written_in room text)

-- the file's own refusals first, then 21, then 20, then the text of the recording that has the id
unfoldable pub shown_of : List ℕ → ℕ → List ℕ → WrittenAndRoom
unfolding unless_refused number_with count_of recording_text shown_in
shown_of file id room =
    let k = number_with file id in
    unless_refused file (no_text room) (cond (ltb k (count_of file)) (shown_in room (recording_text file k)) (no_text room no_such_id))
