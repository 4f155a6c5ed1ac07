-- Of a good file: where a recording's part lies, what it holds, and that reading it is reading the file. Statements only.
use Rattle.std.specs.Prelude.{ℕ, zero, suc, ◌+◌, ◌*◌, ◌<◌, ◌≤◌, ◌≡◌, length, take, ℤ, pos, nat_abs, T}
use mathlib.Core.List.{List, [], ◌++◌, Memᴰ}
use Rattle.std.specs.Float.{binary64}
use Rattle.std.specs.Float.Ieee.{of_int, in_signed, to_signed}
use Rattle.layout.specs.Bytes.{byte_at, signed, i32_at}
use Rattle.layout.specs.Parts.{numbers_of, table_place, count_of, entry_at, part_end, triangle_from, triangle_at}
use Rattle.layout.specs.Rules.{twice_area}
use Rattle.layout.specs.Layout.{Layout}
use Rattle.layout.specs.Recordings.{part_of, f64_at}

pub record Inside (file : List ℕ) (k : ℕ) : Type 0 where
  -- the part lies in the file, before the table, and has 24 bytes a triangle
  pub before_table : part_end (entry_at file k) ≤ table_place file
  pub in_file : part_end (entry_at file k) ≤ length file
  pub part_length : length (part_of file k) ≡ 24 * (entry_at file k).count
  -- each of its triangles is one of the file's, and reading it in the part, or in the file at its place, gives the same
  pub of_file : (j : ℕ) → j < (entry_at file k).count → (n : ℕ) × ((entry_at file k).first + 24 * j ≡ 24 * n) × (24 * n + 24 ≤ table_place file) × (triangle_from (part_of file k) (24 * j) ≡ triangle_at file n)
  pub same_byte : (at : ℕ) → at < 24 * (entry_at file k).count → byte_at (part_of file k) at ≡ byte_at file ((entry_at file k).first + at)
  pub same_number : (at : ℕ) → at + 4 ≤ 24 * (entry_at file k).count → i32_at (part_of file k) at ≡ i32_at file ((entry_at file k).first + at)
  pub same_float : (at : ℕ) → at + 4 ≤ 24 * (entry_at file k).count → f64_at (part_of file k) at ≡ f64_at file ((entry_at file k).first + at)
  -- its coordinates are in range, and each of its triangles has an area
  pub in_range : (j : ℕ) → j < (entry_at file k).count → (z : ℤ) → Memᴰ z (numbers_of (triangle_from (part_of file k) (24 * j))) → nat_abs z ≤ 1000000
  pub some_area : (j : ℕ) → j < (entry_at file k).count → twice_area (triangle_from (part_of file k) (24 * j)) ≡ pos 0 → ⊥

abbrev pub PartsInside : Type 0
PartsInside = (file : List ℕ) (k : ℕ) → Layout file → k < count_of file → Inside file k

-- the parts of the first n recordings, one after the other
unfoldable pub parts_to : List ℕ → ℕ → List ℕ
unfolding part_of
parts_to file zero = []
parts_to file (suc n) = parts_to file n ++ part_of file n

-- all parts together are the bytes before the table: no triangle is lost, and none is in two recordings
abbrev pub PartsJoined : Type 0
PartsJoined = (file : List ℕ) → Layout file → parts_to file (count_of file) ≡ take (table_place file) file

-- whatever 32 bits hold becomes an f64 that is a whole number, the same one
abbrev pub Unchanged : Type 0
Unchanged = (v : ℕ) → v < 4294967296 → T (in_signed binary64 31 (of_int binary64 (signed v))) × (to_signed 31 (of_int binary64 (signed v)) ≡ signed v)
