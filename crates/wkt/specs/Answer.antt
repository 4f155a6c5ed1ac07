-- 02, No. 6: what the program writes for a file and an id. Definitions and statements.
use Rattle.std.specs.Prelude.{ℕ, ◌≡◌, cond, List, ◌++◌, ltb}
use Rattle.layout.specs.Parts.{count_of}
use Rattle.layout.specs.Layout.{Layout}
use Rattle.layout.specs.Verdict.{verdict}
use Rattle.layout.specs.Recordings.{unless_refused}
use Rattle.listing.specs.Words.{feed, refused_line}
use Rattle.chart.specs.Recorded.{Has, number_with, recording_text}
use Rattle.chart.specs.Showing.{no_such_id}

-- the text and a line feed, or the line that says that no recording has the id
unfoldable pub text_or_line : ℕ → List ℕ → List ℕ
unfolding number_with count_of recording_text refused_line
text_or_line id file = let k = number_with file id in cond (ltb k (count_of file)) (recording_text file k ++ feed) (refused_line no_such_id)

-- or the line that says how the file is refused
unfoldable pub output_of : ℕ → List ℕ → List ℕ
unfolding unless_refused text_or_line refused_line
output_of id file = unless_refused file refused_line (text_or_line id file)

-- in words: of a good file the text of the recording that has the id, or 21; of any other its own refusal
pub record Output (id : ℕ) (file : List ℕ) : Type 0 where
  pub text : Layout file → (k : ℕ) → Has file id k → output_of id file ≡ recording_text file k ++ feed
  pub no_such_id : Layout file → (((k : ℕ) × Has file id k) → ⊥) → output_of id file ≡ refused_line no_such_id
  pub refused : (Layout file → ⊥) → output_of id file ≡ refused_line (verdict file)

abbrev pub Outputs : Type 0
Outputs = (id : ℕ) (file : List ℕ) → Output id file
