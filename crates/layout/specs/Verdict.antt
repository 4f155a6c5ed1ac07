-- 01, "The footprint file": the refusal table and its order, and what is said of a file. Definitions only.
use Prim.Native.Nat.{ℕ, zero, suc, ◌-◌}
use Rattle.std.specs.Prelude.{Bool}
use Rattle.std.proofs.Math.Bool.{cond}
use mathlib.Core.List.{List, [], ◌∷◌, ◌++◌}
use Rattle.std.proofs.Math.ListN.{length}
use Rattle.floats.specs.Turns.{in_turn}
use Rattle.layout.specs.Parts.{table_place, count_of, stored_length, entry_place, entry_at, end_before, triangle_place, triangle_at, triangles_of}
use Rattle.layout.specs.Rules.{is_bad_length, is_other_length, is_bad_trailer, is_bad_entry, is_seen, is_wrong_end, is_out_of_range, is_flat}
use Rattle.layout.specs.declared.Verdict.{Verdict}

-- the rows of the table; those of entries and triangles are rows of each entry and each triangle
pub data Row : Type 0 where
  bad_length : Row
  other_length : Row
  bad_trailer : Row
  bad_entry : ℕ → Row
  id_again : ℕ → Row
  wrong_end : Row
  out_of_range : ℕ → Row
  flat : ℕ → Row

abbrev pub number_of : Row → ℕ
number_of bad_length = 11
number_of other_length = 12
number_of bad_trailer = 13
number_of (bad_entry i) = 14
number_of (id_again i) = 16
number_of wrong_end = 15
number_of (out_of_range k) = 17
number_of (flat k) = 18

-- a number and a place; 0 and 0 of a good file
abbrev pub number_at : ℕ → ℕ → Verdict
number_at number place = record { number = number; place = place }

abbrev pub good : Verdict
good = number_at 0 0

module _ (file : List ℕ) where
  -- the ids of the first i entries, the latest first
  unfoldable pub ids_before : ℕ → List ℕ
  unfolding entry_at
  ids_before zero = []
  ids_before (suc i) = (entry_at file i).id ∷ ids_before i

  -- the place that a row reports
  unfoldable pub place_of : Row → ℕ
  unfolding table_place entry_place
  place_of bad_length = 0
  place_of other_length = 0
  place_of bad_trailer = length file - 12
  place_of (bad_entry i) = entry_place file i
  place_of (id_again i) = entry_place file i
  place_of wrong_end = table_place file
  place_of (out_of_range k) = triangle_place k
  place_of (flat k) = triangle_place k

  -- the row's test
  unfoldable pub test : Row → Bool
  unfolding stored_length table_place count_of entry_at end_before triangle_at is_bad_entry is_seen is_out_of_range is_flat ids_before
  test bad_length = is_bad_length (length file)
  test other_length = is_other_length (stored_length file) (length file)
  test bad_trailer = is_bad_trailer (table_place file) (count_of file) (length file)
  test (bad_entry i) = is_bad_entry (entry_at file i) (end_before file i)
  test (id_again i) = is_seen (entry_at file i).id (ids_before i)
  test wrong_end = is_wrong_end (end_before file (count_of file)) (table_place file)
  test (out_of_range k) = is_out_of_range (triangle_at file k)
  test (flat k) = is_flat (triangle_at file k)

  -- what the first of these rows that holds says; nothing against the file if none does
  unfoldable pub first_of : List Row → Verdict
  unfolding test place_of
  first_of [] = good
  first_of (row ∷ rows) = let rest = first_of rows in cond (test row) (number_at (number_of row) (place_of row)) rest

  -- all rows in their order: 11, 12, 13; the entries in turn, 14 before 16; 15; the triangles in turn, 17 before 18
  unfoldable pub rows : List Row
  unfolding count_of triangles_of in_turn
  rows = bad_length ∷ other_length ∷ bad_trailer ∷ (in_turn bad_entry id_again (count_of file) 0 ++ (wrong_end ∷ in_turn out_of_range flat (triangles_of file) 0))

  -- what is said of the file: the number and the place of the first row that holds, or 0 and 0
  unfoldable pub verdict : Verdict
  unfolding first_of rows
  verdict = first_of rows
