-- What the writer promises of its result and of the lent room, for all lists and all rooms; demand 1 of it, read off the promise; and 02's two statements, the second as No. 7 has it, both of the last bytes too, as No. 8 has them. Statements only.
use Rattle.std.specs.Prelude.{ℕ, ◌+◌, ◌*◌, ◌<◌, ◌≤◌, ◌≡◌, ◌↔◌, List, length, take, drop, get_or}
use Rattle.layout.specs.Bytes.{Bytes, i32_at}
use Rattle.layout.specs.Parts.{count_of as count_in, entry_at}
use Rattle.layout.specs.Verdict.{verdict, good}
use Rattle.layout.specs.Recordings.{recording_of, recording_by, no_recording, no_such, part_of}
use Rattle.filing.specs.Given.{Given, recordings, count_at, coordinate_at, sum_to, entry_of}
use Rattle.filing.specs.File.{file_length, file_of}
use Rattle.filing.specs.Refusals.{Row, number_of}
use Rattle.filing.specs.Rows.{Applies, First}
use Rattle.filing.specs.Written.{written}
use Rattle.filing.specs.Taken.{taken_from}
use Rattle.text.specs.declared.Written.{Written}

pub record WritePromise (g : Given) (room : List ℕ) (result : Written) (after : List ℕ) : Type 0 where
  pub result_is : result ≡ (written g room).result
  pub after_is : after ≡ (written g room).room

-- no second result and no second room meets it
abbrev pub NoSecondWrite : Type 0
NoSecondWrite = (g : Given) (room : List ℕ) (r s : Written) (a b : List ℕ) → WritePromise g room r a → WritePromise g room s b → (r ≡ s) × (a ≡ b)

pub record WriteDemand1 (g : Given) (room : List ℕ) (result : Written) (after : List ℕ) : Type 0 where
  -- a refusal's number exactly if it is that of the first row that applies, 0 exactly if none does
  pub refused_by : (n : ℕ) → ((result.number ≡ n) × (n ≡ 0 → ⊥)) ↔ ((row : Row) × First g (length room) row × (number_of row ≡ n))
  pub accepted : (result.number ≡ 0) ↔ ((row : Row) → Applies g (length room) row → ⊥)
  pub numbers : (result.number ≡ 0 → ⊥) → (13 ≤ result.number) × (result.number ≤ 19)
  -- the place is 0 always; with a refusal comes the length 0, and the room is as it was
  pub no_place : result.place ≡ 0
  pub zeros : (result.number ≡ 0 → ⊥) → (result.length ≡ 0) × (after ≡ room)
  -- of an answer: the front of the room is the whole file
  pub whole : result.number ≡ 0 → take result.length after ≡ file_of g
  pub length_is : result.number ≡ 0 → (result.length ≡ file_length g) × (result.length ≡ length (file_of g)) × (result.length ≤ 65536)
  -- refused or not: the room keeps its length, and what lies behind the file
  pub same_length : length after ≡ length room
  pub rest : drop result.length after ≡ drop result.length room

abbrev pub WriteReturned : Type 0
WriteReturned = (g : Given) (room : List ℕ) (result : Written) (after : List ℕ) → WritePromise g room result after → WriteDemand1 g room result after

-- ids are those of a list of u32
abbrev pub Ids : List ℕ → Type 0
Ids ids = (k : ℕ) → get_or ids k 0 < 4294967296

-- the reader takes these bytes for a good file, and finds in it what was given
pub record SameRecordings (g : Given) (file : List ℕ) : Type 0 where
  pub accepted : verdict file ≡ good
  -- as many recordings as ids, and no more
  pub as_many : count_in file ≡ recordings g
  pub no_more : (i : ℕ) → recordings g ≤ i → recording_of file i ≡ no_recording no_such
  -- recording i has the id, the count, the set and the last byte that were given, and its triangles begin where those before it end
  pub recording : (i : ℕ) → i < recordings g → recording_of file i ≡ recording_by (entry_of g i)
  -- its part has 24 bytes for each of its triangles, which are, number by number, those that follow the triangles of the recordings before it
  pub part_length : (i : ℕ) → i < recordings g → length (part_of file i) ≡ 24 * count_at g i
  pub part_numbers : (i : ℕ) → i < recordings g → (j : ℕ) → j < 6 * count_at g i → i32_at (part_of file i) (4 * j) ≡ coordinate_at g (6 * sum_to g i + j)
  -- so the lists that were given are those that the reader got
  pub lists : taken_from file ≡ g

-- the first statement: whatever was written, the reader takes it and finds in it what was given
abbrev pub WrittenIsAccepted : Type 0
WrittenIsAccepted = (g : Given) (room : List ℕ) (result : Written) (after : List ℕ) → Ids g.ids → WritePromise g room result after → result.number ≡ 0 → SameRecordings g (take result.length after)

-- no recording of the file is stored with set 2; or one is
abbrev pub NoneRetired : List ℕ → Type 0
NoneRetired file = (i : ℕ) → i < count_in file → (entry_at file i).set ≡ 2 → ⊥

abbrev pub SomeRetired : List ℕ → Type 0
SomeRetired file = (i : ℕ) × (i < count_in file) × ((entry_at file i).set ≡ 2)

-- the second: from the lists that the reader finds in a good file without set 2 the writer makes that file again, byte for byte, in any room that holds it
abbrev pub VeryBytes : Type 0
VeryBytes = (file room : List ℕ) (result : Written) (after : List ℕ) → Bytes file → verdict file ≡ good → NoneRetired file → length file ≤ length room → WritePromise (taken_from file) room result after → (result.number ≡ 0) × (result.length ≡ length file) × (take result.length after ≡ file)

-- and of those that it finds in a good file with set 2 the writer says 14, whatever the room, which stays as it was
abbrev pub OldIsRefused : Type 0
OldIsRefused = (file room : List ℕ) (result : Written) (after : List ℕ) → verdict file ≡ good → SomeRetired file → WritePromise (taken_from file) room result after → (result.number ≡ 14) × (result.length ≡ 0) × (after ≡ room)
