-- What the writer of the text promises of its result and of the lent room, for all bytes, ids and rooms; and what was returned, fact by fact, read off the promise. Statements only.
use Rattle.std.specs.Prelude.{ℕ, ◌<◌, ◌≤◌, ◌≡◌, ◌⊎◌, ◌↔◌, List, length, take, drop}
use Rattle.text.specs.declared.Written.{Written}
use Rattle.layout.specs.Verdict.{verdict}
use Rattle.layout.specs.Layout.{Layout}
use Rattle.chart.specs.Recorded.{Has, recording_text}
use Rattle.chart.specs.Showing.{shown_of}

pub record ShowPromise (file : List ℕ) (id : ℕ) (room : List ℕ) (result : Written) (after : List ℕ) : Type 0 where
  pub result_is : result ≡ (shown_of file id room).result
  pub after_is : after ≡ (shown_of file id room).room

-- no second result and no second room meets it
abbrev pub NoSecondText : Type 0
NoSecondText = (file : List ℕ) (id : ℕ) (room : List ℕ) (r s : Written) (a b : List ℕ) → ShowPromise file id room r a → ShowPromise file id room s b → (r ≡ s) × (a ≡ b)

pub record ShowDemand (file : List ℕ) (id : ℕ) (room : List ℕ) (result : Written) (after : List ℕ) : Type 0 where
  -- a refused file answers with its own number and place, whatever the id and the room
  pub file_first : ((verdict file).number ≡ 0 → ⊥) → (result.number ≡ (verdict file).number) × (result.place ≡ (verdict file).place)
  -- 21 exactly if the file is good and none of its recordings has the id, whatever the room
  pub no_such_id : (result.number ≡ 21) ↔ (Layout file × (((k : ℕ) × Has file id k) → ⊥))
  -- 20 exactly if the file is good, a recording has the id, and the room is shorter than its whole text; an answer exactly if that text fits
  pub too_short : (result.number ≡ 20) ↔ (Layout file × ((k : ℕ) × Has file id k × (length room < length (recording_text file k))))
  pub answered : (result.number ≡ 0) ↔ (Layout file × ((k : ℕ) × Has file id k × (length (recording_text file k) ≤ length room)))
  pub no_place : (result.number ≡ 0) ⊎ ((result.number ≡ 20) ⊎ (result.number ≡ 21)) → result.place ≡ 0
  -- the numbers are 11 to 18, 20 and 21; with a refusal comes the length 0, and the room is as it was
  pub numbers : (result.number ≡ 0 → ⊥) → ((11 ≤ result.number) × (result.number ≤ 18)) ⊎ ((result.number ≡ 20) ⊎ (result.number ≡ 21))
  pub zeros : (result.number ≡ 0 → ⊥) → (result.length ≡ 0) × (after ≡ room)
  -- of an answer: the front of the room is the whole text of the recording that has the id
  pub whole : result.number ≡ 0 → (k : ℕ) → Has file id k → (result.length ≡ length (recording_text file k)) × (take result.length after ≡ recording_text file k)
  -- refused or not: the room keeps its length, and what lies behind the text
  pub same_length : length after ≡ length room
  pub rest : drop result.length after ≡ drop result.length room

abbrev pub ShowReturned : Type 0
ShowReturned = (file : List ℕ) (id : ℕ) (room : List ℕ) (result : Written) (after : List ℕ) → ShowPromise file id room result after → ShowDemand file id room result after
