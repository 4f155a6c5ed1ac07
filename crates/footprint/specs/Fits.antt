-- What a trailer that is not refused says of its file. Statements only.
use Rattle.std.specs.Prelude.{ℕ, ◌+◌, ◌*◌, ◌≤◌, ◌≡◌, List, length}
use Rattle.layout.specs.Parts.{table_place, count_of}

-- the table's place and the count of recordings are the trailer's, and the table with the trailer after it ends the file
pub record Fits (file : List ℕ) (table count : ℕ) : Type 0 where
  pub is_table : table ≡ table_place file
  pub is_count : count ≡ count_of file
  pub at_most65536 : length file ≤ 65536
  pub at_most64 : count ≤ 64
  pub filled : table + 12 * count + 12 ≡ length file
