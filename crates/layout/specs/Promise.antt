-- What each entry point promises of its result, for all bytes, and demands 1 and 2 of files, read off the promises. Statements only.
use Rattle.std.specs.Prelude.{ℕ, ◌+◌, ◌*◌, ◌<◌, ◌≤◌, ◌≡◌, ◌⊎◌, ◌↔◌, List, [], length, take, drop}
use Rattle.floats.specs.OneAnswer.{NoSecond}
use Rattle.sets.specs.Editions.{KnownLast}
use Rattle.layout.specs.Parts.{count_of, entry_at}
use Rattle.layout.specs.Verdict.{Row, number_of, place_of, number_at, good, verdict}
use Rattle.layout.specs.Layout.{Layout}
use Rattle.layout.specs.Rows.{First}
use Rattle.layout.specs.Recordings.{unless_refused, recording_by, recording_of, part_of}
use Rattle.layout.specs.declared.Verdict.{Verdict}
use Rattle.layout.specs.declared.Recording.{Recording}

-- of the check: what is said of the file
abbrev pub Checked : List ℕ → Verdict → Type 0
Checked file result = result ≡ verdict file

-- of a recording: its entry, or a refusal
abbrev pub Recorded : List ℕ → ℕ → Recording → Type 0
Recorded file k result = result ≡ recording_of file k

-- of a part: the recording's bytes, or none
abbrev pub Parted : List ℕ → ℕ → List ℕ → Type 0
Parted file k part = part ≡ part_of file k

-- no second result meets any of them
pub record NoSecondOfFile : Type 0 where
  pub check : (file : List ℕ) → NoSecond Verdict (Checked file)
  pub recording : (file : List ℕ) (k : ℕ) → NoSecond Recording (Recorded file k)
  pub part : (file : List ℕ) (k : ℕ) → NoSecond (List ℕ) (Parted file k)

-- nothing beside a refusal's number and place
pub record Zeros (r : Recording) : Type 0 where
  pub id : r.id ≡ 0
  pub first : r.first ≡ 0
  pub count : r.count ≡ 0
  pub set : r.set ≡ 0
  pub last : r.last ≡ 0

pub record FileDemand1 (file : List ℕ) (k : ℕ) (v : Verdict) (r : Recording) (part : List ℕ) : Type 0 where
  -- the check says a row's number and place exactly if that row is the first that applies, good exactly if the file has the layout, and nothing else
  pub refused_by : (row : Row) → (v ≡ number_at (number_of row) (place_of file row)) ↔ First file row
  pub accepted : (v ≡ good) ↔ Layout file
  pub nothing_else : (v ≡ good) ⊎ ((row : Row) × (v ≡ number_at (number_of row) (place_of file row)))
  -- the place lies in the file, or is its end
  pub in_file : v.place ≤ length file
  -- a recording of a refused file has the file's number and place, whatever recording is asked for
  pub file_first : (v.number ≡ 0 → ⊥) → (r.number ≡ v.number) × (r.place ≡ v.place)
  -- of a good file a recording that there is is answered, any other refused with 10 at 0
  pub answered : (r.number ≡ 0) ↔ (Layout file × (k < count_of file))
  pub no_such : (r.number ≡ 10) ↔ (Layout file × (count_of file ≤ k))
  pub no_place : r.number ≡ 10 → r.place ≡ 0
  -- the numbers are 10 to 18, and beside them there are zeros and an empty part
  pub numbers : (r.number ≡ 0 → ⊥) → (10 ≤ r.number) × (r.number ≤ 18)
  pub zeros : (r.number ≡ 0 → ⊥) → Zeros r
  pub no_part : (r.number ≡ 0 → ⊥) → part ≡ []

-- of a recording that was answered: its fields are the entry's, its part is in the file, and is the bytes that they tell
pub record FileDemand2 (file : List ℕ) (k : ℕ) (r : Recording) (part : List ℕ) : Type 0 where
  pub entry : r ≡ recording_by (entry_at file k)
  pub some_triangles : 0 < r.count
  pub known_set : r.set ≤ 2
  pub known_last : KnownLast r.set r.last
  pub in_file : r.first + 24 * r.count ≤ length file
  pub bytes : part ≡ take (24 * r.count) (drop r.first file)
  pub part_length : length part ≡ 24 * r.count

-- whatever is asked, a refused file answers by its number and place alone
abbrev pub FileFirst : Type 1
FileFirst = (A : Type 0) (file : List ℕ) (refused_by : Verdict → A) (answer : A) → ((verdict file).number ≡ 0 → ⊥) → unless_refused file refused_by answer ≡ refused_by (verdict file)

-- and what is answered turns on the first 65,537 bytes: a longer file is refused whatever its bytes are
abbrev pub FirstBytes : Type 1
FirstBytes = (A : Type 0) (refused_by : Verdict → A) (answer : List ℕ → A) (most : ℕ) → 65537 ≤ most → (file : List ℕ) → unless_refused (take most file) refused_by (answer (take most file)) ≡ unless_refused file refused_by (answer file)

abbrev pub FileReturnedTwo : Type 0
FileReturnedTwo = (file : List ℕ) (k : ℕ) (r : Recording) (part : List ℕ) → Recorded file k r → Parted file k part → r.number ≡ 0 → FileDemand2 file k r part

-- and a part with no bytes is one that was refused
abbrev pub EmptyRefused : Type 0
EmptyRefused = (file : List ℕ) (k : ℕ) (r : Recording) (part : List ℕ) → Recorded file k r → Parted file k part → part ≡ [] → r.number ≡ 0 → ⊥

abbrev pub FileReturnedOne : Type 0
FileReturnedOne = (file : List ℕ) (k : ℕ) (v : Verdict) (r : Recording) (part : List ℕ) → Checked file v → Recorded file k r → Parted file k part → FileDemand1 file k v r part
